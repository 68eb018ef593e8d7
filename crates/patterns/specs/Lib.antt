pub mod Answers
pub mod Candidates
pub mod Examples
pub mod Match
pub mod Numbers
pub mod Patterns
pub mod Steps
