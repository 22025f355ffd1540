pub mod Store
pub mod Tables
