pub mod Run
pub mod Table
