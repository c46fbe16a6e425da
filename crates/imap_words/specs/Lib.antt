pub mod Kinds
pub mod Reading
pub mod Numbers
pub mod Strings
pub mod Words
