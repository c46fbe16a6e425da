pub mod Lists
pub mod Rules
pub mod Reading
pub mod Laws
pub mod Parts
pub mod Checking
