pub mod Combining
