pub mod Lawful
pub mod Meanings
