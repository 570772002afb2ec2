pub mod Ranges
pub mod Laws
pub mod OtherKinds
mod OtherCommands
pub mod Blocks
pub mod Containments
pub mod Sorts
