pub mod Going
pub mod Reading
pub mod Nesting
pub mod Trees
pub mod Authors
