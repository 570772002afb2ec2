pub mod Batches
pub mod Blocks
pub mod Yes
