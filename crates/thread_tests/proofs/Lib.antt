pub mod Looped
pub mod Sizes
