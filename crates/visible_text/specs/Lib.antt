pub mod Answers
pub mod CollapseWhitespace
pub mod Examples
pub mod Inner
pub mod Theorems
pub mod VisibleText
pub mod WhiteSpace
