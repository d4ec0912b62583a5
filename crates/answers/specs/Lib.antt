-- ---- what a request for breakpoints answers, and the list that it sets
-- the answer, for each such request
pub mod Answers
-- breakpoints that are asked for, one by one: which are set, under which numbers, and what is said of each
pub mod Breakpoints
-- the texts of a breakpoint: its condition, and which of its hits stops
pub mod Conditions
-- lines as the editor counts them and as the image does
pub mod EditorLines
-- a request for breakpoints at lines
pub mod SetBreakpoints
-- a request for breakpoints at functions
pub mod SetFunctionBreakpoints
-- a request for breakpoints at instructions
pub mod SetInstructionBreakpoints
-- ---- what a request that looks into a stopped machine answers
-- the answer, for each such request
pub mod Looking
-- part of a list
pub mod Parts
-- what a request refers to by a number
pub mod Targets
-- a request for frames
pub mod StackTrace
-- a request for the scopes of a frame
pub mod Scopes
-- a request for variables
pub mod Variables
-- a request for the value of an expression
pub mod Evaluate
-- a request for bytes
pub mod ReadMemory
-- a request for instructions
pub mod Disassemble
-- ---- what a request answers that changes the machine, and what it changes
-- a request that sets a variable
pub mod SetVariable
-- a request that writes bytes
pub mod WriteMemory
-- the disassembly of a word, as a function
pub mod Texts
-- ---- what requests name
-- texts without the spaces round them
pub mod Spaces
-- which expression a text is
pub mod Expressions
-- what the definitions promise
pub mod Laws
-- what private clauses alone cite
pub mod Private
