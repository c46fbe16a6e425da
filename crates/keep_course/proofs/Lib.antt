pub mod Courses
pub mod Commands
pub mod LineUses
