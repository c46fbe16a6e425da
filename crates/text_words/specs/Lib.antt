pub mod Runs
pub mod Words
pub mod Packed
pub mod Sets
