pub mod Advancing
pub mod DecidedLaws
pub mod NameLaws
pub mod RowLaws
pub mod TurnLaws
pub mod WalkLaws
