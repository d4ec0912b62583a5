-- What frames are, and what a stream of them says.

-- a header part: its fields, and the length that it says
pub mod Headers
-- a frame, a stream of frames, and each fault
pub mod Frames
-- the same as a function: the bodies of a stream and its tail
pub mod Reading
-- a stream that comes in pieces, and the value that an unframer is
pub mod Streams
-- what an unframer is after the loan of a body
pub mod Lending
-- what follows for every stream
pub mod Laws
-- what private clauses alone cite
pub mod Private
-- ---- of `byte_strings`
-- the blanks round a field's value
pub use Rattle.byte_strings.specs.Blanks
