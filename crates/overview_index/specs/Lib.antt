pub mod Listings
pub mod Views
pub mod Laws
