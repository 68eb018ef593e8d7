pub mod Collapsed
pub mod Text
pub mod Theorems
