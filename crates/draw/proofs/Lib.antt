pub mod DrawLaws
pub mod TheoremsProof
