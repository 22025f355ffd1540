pub mod Ledger
pub mod Theorem
pub mod Reading
