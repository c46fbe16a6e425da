pub mod WordLemmas
pub mod Walking
pub mod Acting
pub mod Streams
pub mod Digits
