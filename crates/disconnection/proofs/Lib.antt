pub mod Opened
pub mod Stored
