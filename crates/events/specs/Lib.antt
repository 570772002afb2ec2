pub mod Word
pub mod Stores
pub mod Events
