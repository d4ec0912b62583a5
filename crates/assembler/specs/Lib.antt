-- The definitions of `assembler`, in reading order.

-- errors: a line, and what is wrong with it; which error may be reported of a text that has no image
pub mod Errors
-- the lines of a text that say something, each with its number
pub mod Program
-- where everything stands: addresses, labels, rows, and what is wrong with a line at its address
pub mod Places
-- what a statement puts into memory
pub mod Contents
-- an image that is right for a text, and the error of a text that has none
pub mod Placed
-- the image of a text, as a function of it
pub mod Assembled
-- the disassembly of an instruction goes back to its word
pub mod Texts
-- what private clauses alone cite
pub mod Private
