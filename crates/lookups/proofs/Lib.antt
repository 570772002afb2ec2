pub mod Laws
pub mod Accepted
mod Screened
