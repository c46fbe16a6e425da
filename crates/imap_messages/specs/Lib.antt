pub mod Picking
pub mod Tagged
pub mod Sparing
pub mod Fetching
pub mod Wanted
pub mod Seeking
pub mod FetchActs
pub mod SearchActs
