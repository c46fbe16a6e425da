pub mod Peering
pub mod Courses
pub mod Laws
pub mod Asking
pub mod Numbers
