pub mod WireLengths
pub mod MailboxLengths
pub mod FirstValues
pub mod Headers
