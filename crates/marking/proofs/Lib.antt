pub mod AnswerLaws
pub mod ExampleLaws
pub mod MarkLaws
pub mod MarkedSheet
pub mod MarkingRows
pub mod NameLaws
