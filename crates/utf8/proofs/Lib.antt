pub mod CharacterLaws
pub mod Encodings
pub mod Following
pub mod Grammar
pub mod Parts
pub mod Reading
pub mod Words
