pub mod CellsLaws
pub mod TableLaws
