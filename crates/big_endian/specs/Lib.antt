pub mod BigEndian
pub mod Written
