pub mod LentSetPoints
