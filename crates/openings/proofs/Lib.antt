pub mod PlaceLaws
pub mod OpeningsLaws
pub mod OpeningsProof
pub mod AnswerProof
