pub mod Decoded
pub mod Encoding
pub mod Judged
pub mod Marks
pub mod Pages
pub mod Right
pub mod Theorems
pub mod Writing
