pub mod Trees
pub mod Facts
pub mod Laid
pub mod Nodes
