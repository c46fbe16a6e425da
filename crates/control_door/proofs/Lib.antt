pub mod Orders
pub mod Aheads
pub mod Counting
pub mod Holding
pub mod Answering
pub mod Doors
