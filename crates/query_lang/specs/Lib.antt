pub mod Terms
pub mod Dates
pub mod Queries
pub mod Matching
pub mod Asking
