pub mod Phases
mod Torn
mod Commits
mod Starting
mod Zeros
mod Reading
pub mod Bodies
pub mod OneRoots
mod Apart
