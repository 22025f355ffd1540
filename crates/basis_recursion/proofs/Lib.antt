-- The proofs of the statements of specs/Exact.
pub mod Field
pub mod Place
pub mod FormulaIsRecursion
pub mod NoQuotientByZero
pub mod Homomorphism
pub mod IntegerLaws
pub mod IntegerOrder
pub mod FractionLaws
pub mod Rationals
pub mod Exact
