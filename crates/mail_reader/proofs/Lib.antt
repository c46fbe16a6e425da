pub mod Trims
pub mod LineEnds
pub mod FieldNames
pub mod FirstFields
pub mod KeptLines
pub mod IdPieces
pub mod Bodied
pub mod CleanLines
pub mod FormLines
pub mod FormLaws
pub mod PieceEnds
pub mod IdLines
pub mod Blanks
pub mod Squeezes
pub mod Hashes
mod StoredIds
mod Countings
pub mod Distincts
pub mod PieceLaws
pub mod Folding
pub mod PartLaws
pub mod OwnIds
