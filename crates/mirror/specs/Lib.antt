-- What an editor may know of the machine, and what tells it.

-- what a request would tell, once it succeeds
pub mod Requests
-- what a message makes of the facts
pub mod Folding
-- all that was told and all that came, and the facts after it
pub mod Streams
-- what follows for every stream
pub mod Laws
-- ---- how the code works
-- what is kept of it
pub mod Kept
-- ---- of the crates below
-- the facts
pub use Rattle.facts.specs.Facts
-- how a stream is read, and what a body is
pub use Rattle.framing.specs.Reading
pub use Rattle.replies.specs.Messages
