pub mod Memory
pub mod Crashes
