mod Near
mod Words
pub mod LetThrough
