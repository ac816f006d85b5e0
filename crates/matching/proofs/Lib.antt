pub mod Bitwise
pub mod Summed
pub mod Shifts
pub mod Trials
