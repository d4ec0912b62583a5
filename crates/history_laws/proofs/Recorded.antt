-- What is recorded is a run, and how many moves it has.
use Rattle.history_laws.proofs.Common.{Beginning, course_of, EndsARun, EveryPastIsARun, Happened, IfSome, List, moves_from_oldest, None, Option, OrderlyOf, Program, Reached, Some}
use Rattle.session_laws.proofs.Turning.{both_reached}

-- a program is orderly, whatever happens
pub always_orderly : (from : Beginning) (events : List Happened) → OrderlyOf (Reached from events).now.debuggee.program
always_orderly from events = (both_reached (λ _. Unit {0}) (assumption) from tt events).1.program

-- its past is a run
ends_a_run : (program : Option Program) → OrderlyOf program → IfSome program (λ p. EndsARun p.machine)
ends_a_run None h = tt
ends_a_run (Some p) h =
    let d = h.range.machine in record { leads = d.leads; makes = moves_from_oldest (course_of p.machine) d.leads; few = d.few }

pub every_past_is_a_run : (from : Beginning) (events : List Happened) → EveryPastIsARun (Reached from events)
every_past_is_a_run from events = ends_a_run (Reached from events).now.debuggee.program (always_orderly from events)
