pub mod Converting
pub mod Collisions
pub mod Laws
pub mod ConvertSteps
