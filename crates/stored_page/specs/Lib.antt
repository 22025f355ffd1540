pub mod Call
pub mod Page
