pub mod Base64
pub mod Quoted
pub mod Words
pub mod Decoding
pub mod Laws
pub mod Spelled
pub mod Engine
pub mod Writing
