pub mod EvaluationLaws
pub mod SetPointLaws
pub mod PlainProof
