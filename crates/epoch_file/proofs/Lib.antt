mod Fronts
pub mod Sizes
mod Looks
mod Numbers
mod Found
mod Parts
mod Zones
mod Kept
mod Chains
mod Showing
mod Forms
mod Turning
mod Bringing
mod Finding
mod Apart
mod Planned
mod Lying
mod Rewritten
