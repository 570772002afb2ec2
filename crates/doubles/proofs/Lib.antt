pub mod Laws
mod Screened
