pub mod SortedKeys
pub mod Parts
pub mod SetSteps
