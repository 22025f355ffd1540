pub mod CasesLaws
pub mod OutcomesLaws
