pub mod Regions
pub mod Scopes
pub mod Table
