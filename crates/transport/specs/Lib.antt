-- What is done where editors are served over wires, and how that ends.

-- what reads of files give
pub mod Files
-- what is due in each round, and what the rounds do to a session
pub mod Rounds
-- what a recorder is told of them
pub mod Told
-- the rounds over a wire, and how driving ends
pub mod Drives
-- editors that are served one after the other, each over a wire that a door accepts
pub mod Serving
-- what driving and serving lead to
pub mod Reaching
-- ---- a server, for a program that answers by itself
-- the messages of what was read, and those that were given
pub mod Heard
-- what waits to be written
pub mod Outbox
-- what a poll gives, and what a response comes to
pub mod Servers
-- what follows for every list of calls
pub mod Laws
-- what private clauses alone cite
pub mod Private
-- ---- of `session`
-- a session with all of its past
pub use Rattle.session.specs.Sessions
-- what the code keeps of it
pub use Rattle.session.specs.Kept
-- the frame of a message with its number
pub use Rattle.queues.specs.Writing
-- ---- of `wires`
-- a wire, as it is seen
pub use Rattle.wires.specs.Wires
