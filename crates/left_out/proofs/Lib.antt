pub mod DecidingLaws
pub mod LeftOutLaws
pub mod StackLaws
