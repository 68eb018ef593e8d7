pub mod Digits
pub mod Out
pub mod Plain
pub mod Shown
pub mod Texts
pub mod Writing
