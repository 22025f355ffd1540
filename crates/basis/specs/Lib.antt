-- The formula and its laws, its arithmetic in binary64, and what is stated of it.
pub mod Formula
pub mod Binary64
pub mod NonNegative
