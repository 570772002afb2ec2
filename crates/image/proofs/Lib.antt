pub mod Checks
pub mod AfterStores
pub mod Widening
