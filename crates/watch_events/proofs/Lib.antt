pub mod Common
pub mod Tracking
pub mod Events
pub mod Lasts
pub mod Telling
pub mod Tracked
pub mod Replayed
