-- What the adapter sends, as JSON and as bytes: responses to requests, and events.

-- ---- the tables of bodies; each body is from `message_parts`, in the file of its name
-- which body each request has
pub mod Bodies
-- which body each event has
pub mod Events
-- ---- the whole
-- a response as a JSON value, and which responses are the adapter's
pub mod Responses
-- a message with its number, as a JSON value and as text
pub mod Messages
-- what a body is read as: a message exactly where it has the JSON value of one
pub mod Reading
-- what follows for every message
pub mod Laws
-- ---- for `exact` of `read_message` and private clauses: the same reading as a function, which finds the message
-- whether two JSON values are one
pub mod Same
-- the one message that a JSON value can be
pub mod Claims
-- ---- of `message_parts`
-- how the values of a message stand in JSON
pub use Rattle.message_parts.specs.Forms
-- the order of the members of objects
pub use Rattle.message_parts.specs.Order
-- ---- of `protocol`
-- the names of the requests
pub use Rattle.protocol.specs.Commands
-- the numbers and the names of the refusals
pub use Rattle.protocol.specs.Refusals
-- the JSON value of a body
pub use Rattle.protocol.specs.Json
