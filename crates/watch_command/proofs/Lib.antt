pub mod Common
pub mod Reading
pub mod Failing
-- what is left of a stream after its frames
pub mod Leaving
-- what an event says
pub mod Spoken
-- what is written of events, one after the other
pub mod Showing
