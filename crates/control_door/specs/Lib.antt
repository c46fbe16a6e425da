pub mod Orders
pub mod Requests
pub mod Threads
pub mod Door
pub mod Sessions
pub mod Counting
pub mod Laws
pub mod Refusals
