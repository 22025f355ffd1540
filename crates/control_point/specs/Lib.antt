pub mod Direction
pub mod Refusal
pub mod Small
pub mod Point
pub mod Sides
pub mod Connect
pub mod Told
