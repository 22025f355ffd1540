pub mod Settled
pub mod Stored
