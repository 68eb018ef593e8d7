pub mod Line
pub mod Numbers
pub mod Packed
pub mod Tags
pub mod Words
