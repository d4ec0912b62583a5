pub mod Common
-- maps and lists as functions
pub mod Maps
-- the messages of a stream that comes in pieces
pub mod Streaming
-- the laws
pub mod Lawful
