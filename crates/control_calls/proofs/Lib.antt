pub mod Cases
pub mod Twice
pub mod Laws
