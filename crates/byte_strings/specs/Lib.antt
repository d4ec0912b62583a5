-- Blanks, a text without those round it, and its fields.
pub mod Blanks
pub mod Fields
