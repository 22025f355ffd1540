-- What other crates cite on f64, so that none of them opens a float: the floats from 0 to 1, the NaN, the order, rounding, signs and products with 1.0, each with its laws, then the weighted mean
-- and the bit patterns.
pub mod Literals
pub mod Unit
pub mod Sign
pub mod Nan
pub mod Order
pub mod Rounding
pub mod Mean
pub mod Bits
