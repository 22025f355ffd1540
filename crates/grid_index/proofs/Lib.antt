pub mod IndexLaws
pub mod CellProof
