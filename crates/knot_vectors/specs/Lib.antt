pub mod Knots
pub mod Table
