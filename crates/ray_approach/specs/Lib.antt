pub mod Approach
pub mod Table
