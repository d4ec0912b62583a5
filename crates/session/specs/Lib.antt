-- What a session is, and what events do to it.

-- how far the present connection has come
pub mod Phases
-- references to frames and variables: their numbers, and all that were ever issued
pub mod References
-- what a session is now, and the acts that events and answers are made of
pub mod Acts
-- what kind of answer it is
pub mod Kinds
-- ---- events
-- the last numbers that a session gives
pub mod Limits
-- the program that is there from the beginning
pub mod Config
-- a slice, beat by beat
pub mod Slices
-- what an event answers, and the acts that it comes to
pub mod Outcomes
-- what an event leaves and answers, of whatever is seen as a session
pub mod Effects
-- a session with all of its past, act by act, and its bytes
pub mod Sessions
-- what calls lead to, also where a slice finds no memory
pub mod Reached
-- a prefix of a list
pub mod Prefixes
-- what the code keeps, which sessions that represents (`Stands`), and what a call does for each of them (`Happens`);
-- of these definitions `Goes` and what it needs are for private clauses alone
pub mod Kept
-- what a session is at first
pub mod Begins
-- what private clauses alone cite
pub mod Private
-- ---- of the layers below
-- frames, and each fault of one
pub use Rattle.framing.specs.Frames
-- the bodies and the tail of a stream
pub use Rattle.framing.specs.Reading
-- a stream that comes in pieces
pub use Rattle.framing.specs.Streams
-- the table of the requests, and how each is answered
pub use Rattle.protocol.specs.Commands
pub use Rattle.handlers.specs.Requests
-- the requests that wait; why one is refused, and what it is answered else
pub use Rattle.queues.specs.Arrivals
pub use Rattle.handlers.specs.Refusals
-- a message with its number, as text, and the frame of it
pub use Rattle.replies.specs.Messages
pub use Rattle.queues.specs.Writing
-- what can be known of a machine, what an editor can see, and what a snapshot keeps of it
pub use Rattle.facts.specs.Facts
pub use Rattle.snapshots.specs.Shown
pub use Rattle.snapshots.specs.Snapshots
