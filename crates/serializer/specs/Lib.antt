pub mod Progress
pub mod Serializing
