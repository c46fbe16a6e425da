pub mod Fronts
pub mod Bodies
pub mod Readings
pub mod Requests
pub mod PeerAddresses
pub mod Refusing
