-- What holds of a session whatever happened, of its messages, and of what an editor knows by them.

-- a whole session, computed: the bytes that it gets and those that it sends
pub mod Example
-- which request a turn answers
pub mod Turns
-- what requests ask of the program
pub mod Intents
-- what calls lead to
pub mod Calls
-- what holds whatever happened
pub mod Laws
-- slices that follow each other are one of all their moves
pub mod Joining
-- what has retired since the program was loaded or restarted
pub mod Retiring
-- where a slice stops
pub mod Stopping
-- how long references last
pub mod Lifetimes
-- ---- messages
-- an editor can read each one
pub mod Messages
-- ---- what an editor knows
-- the request that a success answers
pub mod Known
-- whether what is known is so
pub mod Holding
-- what an editor concludes from the messages that have come, and that it was so
pub mod Concluding
-- an editor that tells its mirror requests and feeds it bytes, in turn
pub mod Editors
-- the headline's first half: what an editor's mirror holds was so
pub mod Headline
-- its second half: a reference is answered only in the stop and on the connection that issued it
pub mod References
-- when it is told what the program printed, and what its logpoints say
pub mod Printed
-- what an event queues, and what can be seen once it is done
pub mod News
-- ---- of the crates below
-- what can be seen of a program
pub use Rattle.snapshots.specs.Shown
