pub mod CensusLaws
