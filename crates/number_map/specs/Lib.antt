pub mod Records
pub mod Walks
pub mod Laws
pub mod Rewriting
pub mod Sizes
pub mod Pieces
