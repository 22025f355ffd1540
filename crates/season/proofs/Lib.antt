pub mod SeasonLaws
pub mod TheoremsProof
pub mod OrderProof
pub mod ReadingsProof
