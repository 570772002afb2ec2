pub mod Lending
pub mod Memory
