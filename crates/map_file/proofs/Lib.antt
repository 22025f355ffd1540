pub mod RunLaws
pub mod TableLaws
