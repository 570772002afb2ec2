pub mod Masks
pub mod RangeFields
pub mod Codes
pub mod Commands
pub mod Legality
pub mod Reasons
pub mod Deciding
pub mod OtherCommands
