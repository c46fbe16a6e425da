pub mod CleanText
pub mod Fronts
pub mod Objects
pub mod Trees
pub mod Commits
pub mod Reading
pub mod Laws
