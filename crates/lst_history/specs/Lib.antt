pub mod Peeks
pub mod Commits
