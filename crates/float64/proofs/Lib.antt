pub mod SignLaws
pub mod ProductLaws
pub mod Monotone
pub mod MeanLaws
pub mod BitsLaws
