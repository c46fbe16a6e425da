pub mod MadeIds
pub mod Candidates
pub mod Deliveries
pub mod FirstChoice
pub mod Owners
pub mod EpochLemmas
pub mod LiveEntries
pub mod ValidArchives
pub mod Keepers
pub mod Shelving
mod Following
pub mod Purging
pub mod Rewrites
mod TakenTexts
pub mod Commands
