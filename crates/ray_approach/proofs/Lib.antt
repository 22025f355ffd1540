pub mod ApproachLaws
pub mod TableLaws
