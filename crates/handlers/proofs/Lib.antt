pub mod GoingBack
pub mod Launching
pub mod Reasons
