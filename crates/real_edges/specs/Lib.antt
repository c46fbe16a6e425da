pub mod Counted
pub mod Progress
pub mod Sockets
pub mod Homes
pub mod PeerWires
