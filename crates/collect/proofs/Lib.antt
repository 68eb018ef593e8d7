pub mod AddedLaws
pub mod Attributes
pub mod EntryLaws
pub mod PieceLaws
pub mod ReadLaws
pub mod TestLaws
