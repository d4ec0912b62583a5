-- What holds of the moves of a program.
use Rattle.std.specs.Prelude.{Ok}
use Rattle.debuggee.specs.Programs.{Program, moved, next_tick}
use Rattle.stepping.specs.Ticks.{IsTick}

-- A move is the one tick of the program's machine: it comes to what that answers, and leaves what that leaves.
abbrev pub MovesAreTicks : Type 0
MovesAreTicks = (p : Program) → IsTick p.machine (Ok (next_tick p)) (moved p).machine
