pub mod Addresses
pub mod Days
pub mod Escapes
pub mod Markup
