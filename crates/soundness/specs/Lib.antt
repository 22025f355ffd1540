pub mod MapCalls
pub mod Theorems
pub mod KnotsPass
pub mod IndexTheorem
pub mod Alike
pub mod Pulls
