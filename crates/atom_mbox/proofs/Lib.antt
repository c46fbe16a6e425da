mod Mailing
mod Tags
