pub mod Links
pub mod SearchLaws
pub mod TableLaws
