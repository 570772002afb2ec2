pub mod Order
pub mod Cases
pub mod Laws
pub mod Cuts
