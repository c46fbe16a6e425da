pub mod Door
pub mod Idling
pub mod Counting
pub mod Laws
pub mod Tags
pub mod Sessions
