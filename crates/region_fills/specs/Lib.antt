pub mod Fills
pub mod Cuts
