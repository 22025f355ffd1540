pub mod Load
pub mod Theorems
pub mod Readings
