pub mod Texts
pub mod Matches
pub mod Ledgers
