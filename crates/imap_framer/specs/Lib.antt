pub mod Framing
pub mod Feeding
pub mod FrontLaws
pub mod Doors
pub mod Scanning
