pub mod Turns
pub mod Calling
