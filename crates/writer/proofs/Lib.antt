pub mod ByCode
pub mod Asking
pub mod Reading
pub mod Lines
pub mod Judging
pub mod RoundTrip
pub mod Slots
