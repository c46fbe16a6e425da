pub mod Dates
pub mod Laws
pub mod Parts
pub mod Pieces
pub mod Printed
pub mod Reading
pub mod Words
