pub mod Formed
pub mod Openness
