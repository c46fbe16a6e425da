pub mod Numbers
pub mod Fronting
pub mod Goings
pub mod Announcing
pub mod PartLaws
pub mod Doors
