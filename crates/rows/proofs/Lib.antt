pub mod Covering
pub mod LastLevel
pub mod Numbers
