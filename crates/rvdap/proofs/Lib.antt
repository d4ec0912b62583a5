pub mod Connecting
pub mod Lines
