pub mod Showing
pub mod Verdicts
pub mod Offsets
