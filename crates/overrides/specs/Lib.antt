pub mod Overrides
