pub mod AnswerLaws
pub mod LengthLaws
pub mod PutLaws
pub mod TheoremsProof
