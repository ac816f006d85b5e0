pub mod Log
pub mod Transcript
