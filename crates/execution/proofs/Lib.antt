pub mod Joining
pub mod Writing
pub mod Ending
pub mod Starting
pub mod Told
