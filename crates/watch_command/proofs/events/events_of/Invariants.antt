use Rattle.watch_command.specs.Private.Playing.{HasEvents}

-- the steps so far have these events
abbrev pub invariant-loop-step : Rattle.watch_command.proofs.events.events_of.Given.invariant-loop-step
invariant-loop-step g l = HasEvents l.yielded (g.F.Files.past l.fn.files) (g.F.Files.past l.files) l.events.items
