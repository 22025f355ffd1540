pub mod Draw
pub mod Theorems
