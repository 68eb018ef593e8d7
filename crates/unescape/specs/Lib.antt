pub mod Answers
pub mod Examples
pub mod Inner
pub mod Theorems
pub mod Unescape
