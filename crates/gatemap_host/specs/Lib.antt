pub mod SetPoint
pub mod CellCall
pub mod SeasonCall
pub mod LoadCall
