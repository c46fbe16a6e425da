pub mod Members
pub mod Numbers
pub mod Rounds
pub mod ThreadLabels
pub mod Entries
pub mod Texts
