pub mod Firsts
pub mod FourCounts
pub mod Sizes
pub mod Validly
