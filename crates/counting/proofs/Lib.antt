pub mod BoolLaws
pub mod CountLaws
pub mod SumLaws
pub mod PairLaws
pub mod SomeLaws
