pub mod Conjunctions
pub mod Trimming
pub mod Below
pub mod Divided
