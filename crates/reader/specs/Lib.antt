pub mod Demands
pub mod Extraction
pub mod Marked
pub mod MissingAlt
pub mod Pages
pub mod Rust
