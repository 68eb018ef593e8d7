pub mod Answers
pub mod Examples
pub mod Inner
pub mod Lists
pub mod Marks
pub mod Names
pub mod Theorems
