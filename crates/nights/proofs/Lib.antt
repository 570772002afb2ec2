pub mod Night
pub mod Retries
pub mod Cuts
pub mod Finishing
pub mod Repeats
