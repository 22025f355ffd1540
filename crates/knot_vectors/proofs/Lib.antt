pub mod KnotsLaws
pub mod TableLaws
