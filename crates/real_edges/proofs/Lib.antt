pub mod SocketEvents
