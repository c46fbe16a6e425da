pub mod Replies
pub mod Texts
pub mod Laws
pub mod Orders
