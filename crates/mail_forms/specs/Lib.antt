pub mod WireForms
pub mod Mailboxes
pub mod NamedValues
pub mod Laws
