-- The definitions of `course`, in reading order.

-- what an instruction means for the call stack: a push, a pop, both or nothing
pub mod Marks
-- the calls of a running program: how deep they are, and which of them are kept
pub mod Calls
-- what holds of every program
pub mod Laws
-- a hart in its memory, with the calls of its program, and what an instruction makes of it
pub mod Positions
-- what private clauses alone cite
pub mod Private
