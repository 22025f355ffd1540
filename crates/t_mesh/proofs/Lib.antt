pub mod InsertionLaws
