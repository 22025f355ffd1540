pub mod PointsLaws
pub mod CallLaws
