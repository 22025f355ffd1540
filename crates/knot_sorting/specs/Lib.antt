pub mod KnotVector
pub mod NeverFallingPass
