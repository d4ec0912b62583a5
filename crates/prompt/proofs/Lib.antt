pub mod Parting
pub mod Separating
pub mod Ink
pub mod Whole
