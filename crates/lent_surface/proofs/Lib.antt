pub mod LentLaws
pub mod LentIsSubsProof
