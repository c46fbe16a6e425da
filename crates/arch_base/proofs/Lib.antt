pub mod Digits
pub mod HexDigits
pub mod SameIds
pub mod IdOrder
