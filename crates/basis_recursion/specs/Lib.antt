-- The recursion, exact arithmetic, and what is stated of formula and recursion in it.
pub mod Recursion
pub mod Fraction
pub mod Exact
pub mod Examples
