pub mod Members
pub mod Threads
pub mod Labelling
pub mod Laws
