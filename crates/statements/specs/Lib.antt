-- The definitions of `statements`, in reading order.

-- names, and texts divided at a byte
pub mod Spelling
-- numbers in a text, and their ranges
pub mod Numbers
-- the forms of an operand
pub mod Operands
-- the instructions of each format, and an address in two parts
pub mod Operations
-- the mnemonics, and the names of directives
pub mod Mnemonics
-- what an instruction or a pseudo-instruction says of its operands
pub mod Instructions
-- what a directive says of its operands
pub mod Directives
-- what a line says, as a function of its bytes
pub mod Reading
-- the same by rules: what a line is made of, and what it means
pub mod Grammar
-- what a pseudo-instruction means
pub mod Pseudo
-- the statement that the disassembly of an instruction is
pub mod Texts
-- what holds of every line
pub mod Laws
-- what a line says by the forms of its operands
pub mod OperandLaws
-- what a directive states of its operands
pub mod DirectiveLaws
-- which operands are bad
pub mod RefusalLaws
