pub mod Listed
pub mod Unique
pub mod Whole
pub mod Named
