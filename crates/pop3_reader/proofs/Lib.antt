pub mod Acting
pub mod DoorLaws
pub mod Lines
pub mod Sizes
