pub mod Evaluation
pub mod SetPoint
pub mod Plain
