pub mod Purges
pub mod Edits
pub mod Followers
