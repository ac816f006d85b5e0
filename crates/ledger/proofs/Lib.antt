pub mod Steps
pub mod Words
pub mod Nesting
pub mod Piling
pub mod Alikes
pub mod Reordering
pub mod Causes
pub mod Laws
