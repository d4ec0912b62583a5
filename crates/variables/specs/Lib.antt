-- what holds of one machine, its registers and its memory
pub use Rattle.rv32i.specs.Names
pub use Rattle.rv32i.specs.Machine
-- values as an editor writes them
pub mod Values
-- the registers as variables, and setting one
pub mod Registers
-- the words of the stack as variables
pub mod Stack
-- ---- numbers of frames and scopes
-- all that was ever issued, and what is asked of it
pub mod References
-- what is kept of it
pub mod Numbers
-- what holds of numbers over any list of calls
pub mod Laws
-- what private clauses alone cite
pub mod Private
