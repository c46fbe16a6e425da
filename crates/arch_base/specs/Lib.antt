pub mod Counts
pub mod Decimals
pub mod Ids
pub mod Names
pub mod Configs
pub mod Moments
