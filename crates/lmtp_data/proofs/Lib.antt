pub mod Scans
pub mod Following
mod SentLines
mod Stepping
