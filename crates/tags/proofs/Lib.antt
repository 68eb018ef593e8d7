pub mod LineLaws
pub mod PackLaws
pub mod TagLaws
pub mod WordLaws
