pub mod Waits
pub mod Blocks
pub mod Phrases
pub mod Changed
