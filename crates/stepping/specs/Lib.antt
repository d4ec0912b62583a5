-- The definitions of `stepping`, in reading order.

-- where a run is meant to stop
pub mod Goals
-- one tick: a move, and what a debugger makes of it
pub mod Ticks
-- a tick with nothing to report, and many ticks
pub mod Plain
pub mod Runs
-- where a run stops: the least number at which a reason applies
pub mod Stopping
-- what holds of every run: ticks stop there
pub mod RunLaws
-- where a run that goes back stops
pub mod StoppingBack
-- a machine into which a program was just loaded
pub mod Loading
-- what a machine keeps of its past
pub mod Past
-- what it has recorded of its past: a run that leads to where it is
pub mod Leading
-- a machine that has lent its breakpoints
pub mod Lending
-- what private clauses alone cite
pub mod Private
