pub mod FileCell
