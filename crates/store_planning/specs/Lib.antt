pub mod DamagedTexts
pub mod Planning
pub mod Epochs
pub mod Dropping
pub mod Mapping
