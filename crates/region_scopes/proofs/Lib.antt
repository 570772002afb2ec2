pub mod Laws
pub mod OtherCommands
