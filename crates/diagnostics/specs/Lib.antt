-- The definitions of `diagnostics`.

-- the errors of a text
pub mod Errors
-- what is told of a text that does not assemble
pub mod Diagnoses
-- the parts of a line
pub mod Parts
-- what an operand has to be
pub mod Kinds
-- what the code keeps of an error
pub mod Findings
-- the same as JSON
pub mod Json
-- what private clauses alone cite
pub mod Private
