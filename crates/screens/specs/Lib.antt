pub mod Places
pub mod Screens
