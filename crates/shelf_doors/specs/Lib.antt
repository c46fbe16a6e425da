pub mod Numbers
pub mod Mailboxes
pub mod Refusals
pub mod Ways
pub mod Streams
pub mod Reads
