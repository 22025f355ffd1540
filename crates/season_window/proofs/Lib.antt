pub mod DecisionLaws
pub mod TheoremsProof
