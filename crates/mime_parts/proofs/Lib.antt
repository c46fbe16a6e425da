pub mod Lexing
pub mod Parameters
pub mod Dividing
pub mod Spanning
pub mod Turns
pub mod Trimming
pub mod Feeding
mod Cutting
mod TreeLaws
