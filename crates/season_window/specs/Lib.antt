pub mod Window
pub mod Decision
pub mod Theorems
