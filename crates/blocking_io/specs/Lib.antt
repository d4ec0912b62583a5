-- Streams over descriptors that may be non-blocking, and calls that are made again.
-- which errors pass by themselves
pub mod Passing
-- how often a call is made again
pub mod Retries
-- what a writer has of bytes that were to be written
pub mod Writing
-- what private clauses alone cite
pub mod Private
