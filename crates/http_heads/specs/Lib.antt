pub mod Pieces
pub mod Addresses
pub mod Heads
pub mod Parameters
pub mod Dates
pub mod Replies
