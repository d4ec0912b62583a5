-- The tick with nothing to report: the machine continues, nothing was printed, and no logpoint has something
-- to say.
use Rattle.std.specs.Prelude.{◌≡◌, None, []}
use Rattle.stepping.specs.Ticks.{Debugged}
use Rattle.stepping.specs.declared.tick.Outcome.TheVariants.{Went}
use Rattle.stepping.specs.declared.tick.Tick.{Tick}

-- what it answers
abbrev pub plain_tick : Tick
plain_tick = record { printed = None; outcome = Went }

-- There is nothing to report of a tick that left this machine.
abbrev pub IsPlain : Tick → Debugged → Type 0
IsPlain tick after = (tick ≡ plain_tick) × (after.lists.logs ≡ [])
