pub mod FileCellLaws
