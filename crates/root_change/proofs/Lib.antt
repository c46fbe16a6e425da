pub mod Drops
pub mod Phases
pub mod Sizes
pub mod Roots
pub mod Changes
pub mod Grown
mod Tidies
pub mod Copies
pub mod Others
mod Gathers
pub mod Plans
pub mod Pushes
mod Builds
pub mod PlanParts
mod Placing
mod Written
mod Rewritten
mod Carrying
