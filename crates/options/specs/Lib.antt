-- The definitions of `options`, in reading order.

-- the command line as clap is told of it
pub mod CommandLine
-- how much memory is asked for
pub mod Memory
-- how many instructions may run, and how much may be printed
pub mod Limits
-- what words ask for, and which are refused
pub mod Options
-- what private clauses alone cite
pub mod Private
-- ---- of the crates below
-- the number that digits write
pub use Rattle.numerals.specs.Numerals
