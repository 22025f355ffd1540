pub mod Lent
pub mod LentIsSubs
