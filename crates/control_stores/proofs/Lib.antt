pub mod AfterStores
