pub mod Needs
pub mod Stages
pub mod Outcomes
pub mod Laws
