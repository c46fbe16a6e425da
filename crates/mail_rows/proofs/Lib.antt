pub mod RowFacts
pub mod OverviewLines
