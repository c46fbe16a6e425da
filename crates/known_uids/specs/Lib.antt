pub mod Told
pub mod Staying
pub mod Laws
pub mod Gone
