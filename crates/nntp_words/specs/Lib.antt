pub mod Moments
pub mod Numbers
pub mod Wildmats
