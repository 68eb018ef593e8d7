pub mod ClassLaws
pub mod JoinedLaws
pub mod MatchLaws
pub mod MoveLaws
pub mod StepLaws
