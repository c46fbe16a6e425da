pub mod FrontLaws
pub mod Heads
pub mod Lengths
pub mod Hosts
pub mod RequestHeads
