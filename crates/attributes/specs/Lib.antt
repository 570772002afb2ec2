pub mod Formats
pub mod Settling
