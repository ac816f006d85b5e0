pub mod File
pub mod Headers
pub mod Numbers
pub mod Rows
