pub mod Points
pub mod Call
