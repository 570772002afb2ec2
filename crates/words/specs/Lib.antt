pub mod Choice
pub mod Parts
pub mod Ranges
pub mod Bytes
pub mod Search
pub mod Spans
pub mod Outcomes
