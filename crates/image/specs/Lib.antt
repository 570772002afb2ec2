pub mod Image
pub mod Rules
