pub mod StoreLaws
pub mod TablesLaws
