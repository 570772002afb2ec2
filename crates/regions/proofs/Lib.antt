pub mod Containing
pub mod Sizes
pub mod Formed
pub mod Laws
pub mod Checks
pub mod AfterStores
pub mod Examples
