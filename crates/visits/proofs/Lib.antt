pub mod NotedLaws
pub mod SeeLaws
pub mod WalkStart
pub mod WalkedLaws
pub mod Walking
