pub mod Walking
pub mod Prefixes
pub mod Reading
pub mod Replying
pub mod Acting
pub mod Streaming
