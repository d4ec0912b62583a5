-- The definitions of `rv32i`, in reading order.

-- the formats: where the fields of an instruction lie in its word
pub mod Formats
-- the table of encodings: which word encodes which instruction, and which words are illegal
pub mod Encoding
-- the word of an instruction, as a function of it
pub mod Words
-- what each instruction does to pc, the registers and memory; the move of a machine, and traps
pub mod Machine
-- what is kept of a move, and undoes it
pub mod Undoing
-- the names of exceptions
pub mod Causes
-- the names of the registers
pub mod Names
-- the disassembly of an instruction, and of any word
pub mod Texts
-- what holds of every word and of every machine
pub mod Laws
-- ---- what no reader of a step needs
-- how the code makes a move: its core and what settles the rest
pub mod Steps
-- what private clauses alone cite
pub mod Private
