pub mod Cleaning
pub mod Splitting
pub mod Numbers
pub mod Spellings
pub mod Composing
pub mod Texts
pub mod HexLines
pub mod Zones
pub mod CommitParts
pub mod ObjectIds
mod CommitLines
