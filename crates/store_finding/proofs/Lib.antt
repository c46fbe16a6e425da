mod Comparing
pub mod Lasts
pub mod Extents
pub mod FindingTold
mod FindingTurns
mod Firsts
pub mod Growing
pub mod Indexes
mod Joins
mod Live
pub mod Magics
pub mod Mapped
pub mod Opened
mod Opening
pub mod FrontParts
mod ReadUpTo
mod Recorded
mod Recovered
pub mod TextBytes
pub mod Undamaged
mod UniqueEntries
pub mod UniqueRoots
pub mod NameLists
mod Removals
