pub mod Adding
mod Apart
pub mod Planned
mod Rewritten
mod Spelled
mod Standing
mod Walking
