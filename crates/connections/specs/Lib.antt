-- Wires and doors of the system.
-- what a failed call comes to
pub mod Failures
-- what a look, a write and a knock come to, by what the call of the system said
pub mod Outcomes
-- what a look does to the bytes of a reader, and how a wire begins
pub mod Readers
-- how a connection ends that is to lose nothing of what was sent
pub mod Lingering
