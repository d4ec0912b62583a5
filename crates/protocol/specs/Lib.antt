-- What a body means as a request. First what the requests share.

-- the refusals: the number and the name of each
pub mod Refusals
-- the JSON value of a body
pub mod Json
-- the properties of an object, and their types
pub mod Properties
-- the arguments of requests, by their types
pub mod Arguments
-- how far a step goes
pub mod Granularity
-- a kind of variables
pub mod Filter
-- a request, as a row of the table of all
pub mod Rows
-- ---- the requests that take arguments: what these mean
pub mod Initialize
pub mod Launch
pub mod Cancel
pub mod Disconnect
pub mod SetBreakpoints
pub mod SetFunctionBreakpoints
pub mod SetInstructionBreakpoints
pub mod StepArguments
pub mod ThreadArguments
pub mod StackTrace
pub mod Scopes
pub mod Variables
pub mod SetVariable
pub mod Evaluate
pub mod Disassemble
pub mod ReadMemory
pub mod WriteMemory
-- the table of the requests, by their names
pub mod Commands
-- ---- the whole
-- what a body means: a request, one that is refused, nothing to be answered, or no message
pub mod Reading
-- what follows for every body
pub mod Laws
