pub mod Formed
pub mod Checks
pub mod Index
pub mod Waiting
pub mod Counts
