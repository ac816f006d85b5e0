pub mod Truth
pub mod Fits
pub mod Walk
pub mod Marks
pub mod Passing
pub mod Sizes
