pub mod Ranges
pub mod Scopes
pub mod Kinds
