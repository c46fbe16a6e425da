pub mod Commands
pub mod Notices
pub mod Phases
pub mod Door
pub mod Courses
pub mod Laws
pub mod Sessions
