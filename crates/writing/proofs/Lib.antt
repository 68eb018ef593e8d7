pub mod BeginLaws
pub mod SayLaws
pub mod PassLaws
