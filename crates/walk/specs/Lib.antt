pub mod Names
pub mod Rows
pub mod Turns
