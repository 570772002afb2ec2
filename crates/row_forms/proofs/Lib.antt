pub mod Masks
pub mod LastLevel
pub mod Halves
pub mod Marks
pub mod Shapes
