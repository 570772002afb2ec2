pub mod Running
pub mod Call
