-- The parts of what the adapter sends, as JSON: the bodies of responses and events, and what these are made of.

-- how the values of a message stand in JSON
pub mod Forms
-- addresses and values of words, as texts
pub mod Addresses
-- the order of the members of objects
pub mod Order
-- ---- the bodies of responses
-- whether a breakpoint is set, the bytes of an instruction, and bytes in base64
pub mod Breakpoints
pub mod InstructionBytes
pub mod EncodedBytes
-- the body that answers each request, in the file of its name
pub mod Initialize
pub mod Threads
pub mod Continue
pub mod SetBreakpoints
pub mod SetFunctionBreakpoints
pub mod SetInstructionBreakpoints
pub mod StackTrace
pub mod Scopes
pub mod Variables
pub mod SetVariable
pub mod Evaluate
pub mod Disassemble
pub mod ReadMemory
pub mod WriteMemory
-- ---- the bodies of events
-- the body of `stopped`: why the machine stopped
pub mod Stopped
-- the body of `continued`
pub mod Continued
-- the body of `output`: what the program printed
pub mod Output
-- the body of `exited`: the program's exit code
pub mod Exited
-- ---- for clauses of functions that write parts of a message
-- the tokens of a message, in the order in which they are written
pub mod Written
