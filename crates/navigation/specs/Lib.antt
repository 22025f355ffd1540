pub mod Walk
pub mod Table
