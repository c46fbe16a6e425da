mod Bare
mod Editing
