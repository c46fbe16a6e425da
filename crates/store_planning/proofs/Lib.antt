pub mod Ends
pub mod PlannedExtents
mod Finishing
mod Indexed
pub mod Losing
pub mod Messaged
pub mod ReadyEpochs
mod Mapped
pub mod Parents
pub mod Planned
mod Ranges
pub mod Taken
pub mod Taking
pub mod Apart
