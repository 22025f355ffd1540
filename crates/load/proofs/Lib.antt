pub mod LoadLaws
pub mod TheoremsProof
pub mod ReadingsProof
