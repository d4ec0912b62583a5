-- The definitions of `scripts`, in reading order.

-- what a line says
pub mod Lines
-- what a script says, and its first wrong line
pub mod Scripts
-- what a recording says, which may end anywhere
pub mod Recordings
-- how events are written
pub mod Writing
-- what holds of every recording
pub mod Laws
-- copies of the texts that a session was given
pub mod Copies
-- slices that follow each other
pub mod Joining
-- what a script gets while events are told
pub mod Telling
-- what holds of every recorder
pub mod RecorderLaws
-- what private clauses alone cite
pub mod Private
-- ---- of the crates below
-- a frame
pub use Rattle.framing.specs.Frames
-- the number that digits write
pub use Rattle.numerals.specs.Numerals
