pub mod Cases
pub mod Outcomes
pub mod Tally
