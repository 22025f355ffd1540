pub mod DirectionLaws
pub mod PointLaws
pub mod SidesLaws
pub mod ConnectLaws
pub mod ToldLaws
