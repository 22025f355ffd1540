pub mod AnswersLaws
