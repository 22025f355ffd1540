pub mod LentMeshLaws
pub mod InsertionLaws
