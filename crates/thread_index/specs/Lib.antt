pub mod Lists
pub mod Index
pub mod Tables
pub mod Adding
pub mod Taking
