pub mod Common
-- The proofs of `scripts`.

-- digits and what they write
mod Digits
-- a text, its first line and the lines after it
mod Dividing
-- paths are UTF-8
mod Paths
-- the lines that were read and those that are left
mod Going
-- the whole lines that were read, and those that are left
mod Recording
-- the lines that say events are read as these
pub mod Lines
-- what was written of events is read as these, wherever it is cut
pub mod ReadBack
-- what a script has after several writes
mod Appended
-- joined events are the same events
mod Joins
-- what a script got of the events that were told
mod Records
-- the paths of copies have lines
mod CopyPaths
-- that is read back
mod JoinedReadBack
-- an event is told
mod Told
