pub mod Wording
pub mod Blocks
pub mod Speaking
pub mod Parts
