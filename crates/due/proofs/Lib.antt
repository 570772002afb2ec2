pub mod Scans
pub mod Asked
pub mod Consuming
