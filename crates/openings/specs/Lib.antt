pub mod Openings
pub mod Theorems
