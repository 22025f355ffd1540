pub mod LentMesh
