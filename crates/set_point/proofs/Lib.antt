pub mod LentSetPointsProof
