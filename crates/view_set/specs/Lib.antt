pub mod Threads
pub mod Viewed
pub mod Walks
pub mod Laws
