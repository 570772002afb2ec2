pub mod Tables
pub mod Formed
pub mod Numbers
pub mod Laws
