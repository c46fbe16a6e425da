mod Reading
mod Fronts
pub mod Cutting
mod Naming
mod Acting
mod Answering
mod DoorLaws
