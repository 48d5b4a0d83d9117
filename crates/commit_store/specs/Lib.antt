pub mod Commits
pub mod View
