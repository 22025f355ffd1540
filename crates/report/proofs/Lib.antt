pub mod ReportLaws
pub mod LengthLaws
pub mod ReportFitsProof
pub mod SameOpenLinesProof
