pub mod Twigging
