mod Filtered
mod Followed
mod Purged
mod Edited
