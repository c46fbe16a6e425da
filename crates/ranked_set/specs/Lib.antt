pub mod Ranks
pub mod Nodes
pub mod Windows
