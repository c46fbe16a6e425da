pub mod Commands
pub mod Maildrops
pub mod Notices
pub mod Texts
pub mod Replies
pub mod Door
pub mod Laws
pub mod Sessions
