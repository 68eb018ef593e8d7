pub mod Answer
pub mod Bytes
pub mod Lanes
pub mod Puts
pub mod Refusals
pub mod Word
