pub mod RowLists
pub mod Orders
pub mod Ranges
pub mod Indexing
pub mod SpotLaws
pub mod Pages
pub mod Messages
pub mod NewestFirst
