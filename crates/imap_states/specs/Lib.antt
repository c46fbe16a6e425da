pub mod Notices
pub mod States
pub mod Boxes
pub mod Patterns
pub mod Lists
pub mod Replies
pub mod Laws
