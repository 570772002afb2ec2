pub mod Marks
pub mod Comparing
pub mod CarriedOut
pub mod Calling
pub mod Laws
pub mod ControlWord
