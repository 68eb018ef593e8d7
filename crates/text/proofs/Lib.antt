pub mod CollapseLaws
pub mod EscapeLaws
pub mod RunLaws
pub mod SpaceLaws
pub mod StruckLaws
pub mod TrimLaws
