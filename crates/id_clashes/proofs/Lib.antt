mod Laws
mod Seen
