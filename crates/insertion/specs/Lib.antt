pub mod Insert
pub mod Table
pub mod Lent
pub mod Withdrawal
