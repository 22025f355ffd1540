pub mod MirrorLaws
pub mod CallLaws
pub mod EveryListMirroredProof
pub mod RefusedUnchangedProof
pub mod WalkProof
pub mod RingIsNineProof
