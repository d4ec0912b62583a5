pub mod Common
pub mod Targets
pub mod Standing
pub mod Calls
pub mod Loops
pub mod Ranges
