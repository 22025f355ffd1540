pub mod Filled
pub mod RayLaws
pub mod KnotsLaws
pub mod TableLaws
