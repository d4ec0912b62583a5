-- The definitions of `execution`, in reading order.

-- the texts of a program, one after the other
pub mod Texts
-- a machine into which a program was loaded that was a text
pub mod Loading
-- what a program prints, and how its execution ends
pub mod Executions
-- what an instruction does with an address
pub mod Uses
-- what a program did wrong
pub mod Faults
-- the same in words
pub mod FaultTexts
-- where and why a machine stopped, told
pub mod Telling
-- the registers, told
pub mod Registers
-- the last instructions, told
pub mod Traces
-- an execution ends where a run stops
pub mod Laws
-- what private clauses alone cite
pub mod Private
