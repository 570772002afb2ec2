pub mod Answerers
pub mod Distances
pub mod Fields
mod Groups
