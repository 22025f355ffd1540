pub mod Tmesh
pub mod Insertion
