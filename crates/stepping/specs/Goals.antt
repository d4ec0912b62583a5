-- Where a run is meant to stop, and which way it goes (Debug Adapter Protocol, requests `continue`, `next`, `stepIn`,
-- `stepOut`, `stepBack`, `reverseContinue`; `SteppingGranularity`).
--
-- A run that continues has no goal. One that steps in stops at the next place, one that steps over at the next place at
-- which no more calls are open than at its start, and one that steps out wherever fewer are. A place is the first
-- address of a source line, or an address outside every line; where one steps by instructions, each address is a
-- place.
--
-- A step back and a run back undo moves: a step back one, and a run back as many as are recorded, up to where a
-- breakpoint stands. Their goals are met by no move.
use Rattle.std.specs.Prelude.{ℕ, Bool, true, false, nat_le, nat_lt, ◌&&◌, ◌||◌, Option, Some, None}
use Rattle.image.specs.Lines.{Table, line_of, starts}
use Rattle.stepping.specs.declared.goal.Goal.{Goal}
use Rattle.stepping.specs.declared.goal.Goal.TheVariants.{Go, In, Over, Out, Back, ReverseGo}
use Rattle.stepping.specs.declared.goal.Granularity.{Granularity}
use Rattle.stepping.specs.declared.goal.Granularity.TheVariants.{Line, Instruction}

-- whether a run with this goal goes back: each of its ticks undoes a move
abbrev pub turns_back : Goal → Bool
turns_back Go = false
turns_back (In granularity) = false
turns_back (Over granularity) = false
turns_back (Out granularity) = false
turns_back Back = true
turns_back ReverseGo = true

-- whether there is none
abbrev pub is_absent : Option ℕ → Bool
is_absent None = true
is_absent (Some line) = false

-- whether a step may end at pc
abbrev pub is_place : Granularity → Table → ℕ → Bool
is_place Instruction table pc = true
is_place Line table pc = starts table pc || is_absent (line_of table pc)

-- whether a goal's step may end at pc, whatever the depth is
abbrev pub may_end : Goal → Table → ℕ → Bool
may_end Go table pc = true
may_end (In granularity) table pc = is_place granularity table pc
may_end (Over granularity) table pc = is_place granularity table pc
may_end (Out granularity) table pc = true
may_end Back table pc = true
may_end ReverseGo table pc = true

-- whether a goal is met at pc, by the depth at the start of the run and the depth now
abbrev pub is_met : Goal → ℕ → Table → ℕ → ℕ → Bool
is_met Go start table pc depth = false
is_met (In granularity) start table pc depth = is_place granularity table pc
is_met (Over granularity) start table pc depth = nat_le depth start && is_place granularity table pc
is_met (Out granularity) start table pc depth = nat_lt depth start
is_met Back start table pc depth = false
is_met ReverseGo start table pc depth = false
