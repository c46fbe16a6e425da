pub mod Data
pub mod Readings
pub mod DataLaws
pub mod Steps
