-- In which phases a request is taken, and what it asks of the program that is debugged, before anything else is looked
-- at.
--
-- A request that is about a program needs one. Most need one that has not ended, and those that let it continue, or look
-- into it, one that stands still. There is one thread, which has the number 1 (DAP specification, `Thread.id`).
use Rattle.std.specs.Prelude.{ℤ, pos, Bool, true, false, not, Option, Some, None}
use Rattle.std.specs.Ordering.{int_eq}
use Rattle.debuggee.specs.Programs.{Program, is_ended, is_running}
use Rattle.debuggee.specs.declared.run.Run.{Run}
use Rattle.handlers.specs.declared.demand.Demand.{Demand}
use Rattle.handlers.specs.declared.phase.Phases.{Phases}
use Rattle.handlers.specs.declared.phase.Phases.TheVariants.{There}

-- nothing, in all phases but after the end
abbrev pub asks_nothing : Demand
asks_nothing = record { phases = There; loaded = false; alive = false; thread = None; still = false }

-- there is a program
abbrev pub asks_program : Demand
asks_program = record { phases = There; loaded = true; alive = false; thread = None; still = false }

-- it has not ended
abbrev pub asks_alive : Demand
asks_alive = record { phases = There; loaded = true; alive = true; thread = None; still = false }

-- it has not ended, and this is its thread
abbrev pub asks_thread : ℤ → Demand
asks_thread number = record { phases = There; loaded = true; alive = true; thread = Some number; still = false }

-- it has not ended, and stands still
abbrev pub asks_stopped : Demand
asks_stopped = record { phases = There; loaded = true; alive = true; thread = None; still = true }

-- it has not ended, stands still, and this is its thread
abbrev pub asks_still : ℤ → Demand
asks_still number = record { phases = There; loaded = true; alive = true; thread = Some number; still = true }

-- the same, in these phases
abbrev pub taken_in : Phases → Demand → Demand
taken_in phases demand = record demand { phases = phases }

-- ---- whether it is not so

-- the run of the program, if there is one
abbrev pub run_of : Option Program → Option Run
run_of None = None
run_of (Some p) = Some p.run

abbrev pub has_none : Option Run → Bool
has_none None = true
has_none (Some run) = false

abbrev pub has_ended : Option Run → Bool
has_ended None = false
has_ended (Some run) = is_ended run

abbrev pub goes_on : Option Run → Bool
goes_on None = false
goes_on (Some run) = is_running run

abbrev pub is_no_thread : Option ℤ → Bool
is_no_thread None = false
is_no_thread (Some number) = not (int_eq number (pos 1))
