pub mod Months
pub mod Starts
pub mod Calendar
