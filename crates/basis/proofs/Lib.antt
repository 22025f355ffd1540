pub mod FormulaLaws
pub mod NonNegativeLaws
