pub mod ReachProof
