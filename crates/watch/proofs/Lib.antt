pub mod Watches
pub mod Sending
