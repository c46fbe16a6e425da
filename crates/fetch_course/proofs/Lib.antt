pub mod Lines
pub mod Held
pub mod Valid
pub mod Followers
pub mod More
pub mod Sources
pub mod Asked
