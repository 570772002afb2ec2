pub mod Judging
pub mod Placed
pub mod Cases
pub mod Laws
