pub mod AnswerLaws
pub mod ColumnLaws
pub mod ConcludeLaws
pub mod ExtractLaws
pub mod RowLaws
