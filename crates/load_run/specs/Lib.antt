pub mod Mails
pub mod Loads
pub mod Counted
pub mod Given
