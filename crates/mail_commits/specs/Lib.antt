pub mod Facts
pub mod Commits
pub mod Entries
pub mod Ids
