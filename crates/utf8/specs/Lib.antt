pub mod Abnf
pub mod Character
pub mod Encoding
pub mod State
pub mod Valid
