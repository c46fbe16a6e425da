mod Texts
mod Entries
