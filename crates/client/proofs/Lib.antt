pub mod Inputs
pub mod Later
pub mod Following
pub mod Bodies
