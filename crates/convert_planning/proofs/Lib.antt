mod Blobs
mod Colliding
mod Converted
mod Extended
mod Kept
mod Sets
mod Starts
mod TakenText
mod Taking
pub mod ValidForms
mod WholePlans
