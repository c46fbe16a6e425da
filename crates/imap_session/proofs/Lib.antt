pub mod Idle
pub mod Suiting
pub mod Acting
pub mod Counts
pub mod TagReading
pub mod DoorLaws
