pub mod Steps
pub mod Call
pub mod Outcomes
