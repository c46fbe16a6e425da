pub mod Courses
pub mod Answering
pub mod LineUses
pub mod Laws
