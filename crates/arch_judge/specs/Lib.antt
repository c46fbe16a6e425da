pub mod Indexes
pub mod Judging
