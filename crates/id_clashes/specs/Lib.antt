pub mod Clashes
pub mod SeenIds
