pub mod Links
pub mod WalkLaws
pub mod TableLaws
