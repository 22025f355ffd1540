pub mod Ray
pub mod Knots
pub mod Table
