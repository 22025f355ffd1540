pub mod Season
pub mod Theorems
pub mod Readings
