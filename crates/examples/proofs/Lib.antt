pub mod Texts
pub mod Matches
