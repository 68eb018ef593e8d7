pub mod Joined
pub mod Match
pub mod Meaning
pub mod Regex
pub mod Steps
