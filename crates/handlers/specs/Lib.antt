-- How requests are handled: in which phases each is taken, what it asks of the program, and how it is answered.

-- how far a connection has come, and what was agreed on it
pub mod Phases
-- in which phases a request is taken, and what it asks of the program that is debugged
pub mod Demands
-- how much memory a machine gets
pub mod Sizes
-- what a request is answered by, and what an answer is
pub mod Given
-- the kinds of successes
pub mod Successes
-- what an editor is told of the program that it debugs
pub mod Telling
-- the source, and how the editor counts
pub mod Views
-- each request, in the file of its name: its phases, what it asks, and its answer
pub mod Initialize
pub mod Launch
pub mod Attach
pub mod ConfigurationDone
pub mod Threads
pub mod Cancel
pub mod Restart
pub mod Terminate
pub mod Disconnect
pub mod SetExceptionBreakpoints
pub mod Continue
pub mod Stepping
pub mod Pause
-- the two requests that let the program go back
pub mod GoingBack
-- what sets breakpoints, and the three requests that do
pub mod Breaks
pub mod SetBreakpoints
pub mod SetFunctionBreakpoints
pub mod SetInstructionBreakpoints
-- what looks into the program, and the two requests that set something in it
pub mod Looking
pub mod SetVariable
pub mod WriteMemory
-- the list of the requests
pub mod Requests
-- the answer to a request: the refusals in their order, or its success
pub mod Refusals
-- what the code of an answer changes, and which answer it represents
pub mod Changes
