pub mod Values
pub mod Answers
pub mod Texts
pub mod Messages
pub mod Books
pub mod Calls
pub mod Mechanisms
