pub mod Tables
pub mod Days
pub mod Worked
