pub mod Strings
pub mod Envelopes
pub mod Forests
pub mod Structures
pub mod Laws
pub mod Opened
pub mod Gathered
