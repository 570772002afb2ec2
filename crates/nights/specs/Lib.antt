pub mod Night
pub mod Cuts
pub mod Calls
pub mod Repeats
