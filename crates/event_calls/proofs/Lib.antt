pub mod Order
pub mod Cases
pub mod Written
pub mod Laws
pub mod OneStore
pub mod Cuts
pub mod Recorder
pub mod Examples
