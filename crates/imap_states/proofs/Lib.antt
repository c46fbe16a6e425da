pub mod Acting
pub mod Suiting
mod Rests
mod Ranges
mod Lines
