pub mod CellBytes
