pub mod Common
pub mod Maps
mod Places
mod Flat
pub mod Reading
pub mod Writing
mod Tables
mod Finding
mod Named
pub mod Rows
pub mod Nearest
