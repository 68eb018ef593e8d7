pub mod Counting
pub mod Exact
pub mod Examples
pub mod Links
pub mod Questions
