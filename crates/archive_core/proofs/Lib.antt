mod Counting
pub mod Answered
pub mod Standing
mod Places
pub mod Stored
mod Indexes
mod Verdicts
mod Openings
mod ByBlob
mod ByNumber
mod ByIndex
mod Removing
mod RisingPlaces
mod KeepingUp
pub mod Replies
mod KeptTexts
mod OpeningRows
mod Unmoved
mod Dropping
mod WithoutText
mod TellingDamage
mod EditCompares
mod EditDone
mod EditKept
mod Taking
mod Redone
mod Walking
pub mod RootBytes
pub mod Engines
pub mod Converted
