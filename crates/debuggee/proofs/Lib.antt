pub mod Common
pub mod Naming
pub mod Advancing
pub mod Loading
pub mod Writing
