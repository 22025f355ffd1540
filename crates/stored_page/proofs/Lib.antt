pub mod CallLaws
pub mod PageLaws
