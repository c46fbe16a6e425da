mod Maps
pub mod Indexes
pub mod Endings
mod FreeIds
mod Choosing
mod Judged
