mod FileMaps
mod Steps
