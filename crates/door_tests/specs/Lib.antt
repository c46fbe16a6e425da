pub mod Streams
pub mod Chains
