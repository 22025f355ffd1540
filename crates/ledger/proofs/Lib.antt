pub mod EnteredLaws
pub mod PriceLaws
pub mod ChangeLaws
pub mod BookingLaws
pub mod CountedLaws
pub mod TheoremProof
pub mod SidesAddUpProof
pub mod ReadingProof
