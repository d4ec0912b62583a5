-- When an editor is told what the program printed, and what its logpoints say (DAP specification, `OutputEvent`).
--
-- A move that prints, or after which a logpoint says something, may stop the program too. The output is told first, and
-- the program still runs then: it stops when the stop is told.
use Rattle.std.specs.Prelude.{◌≡◌, ℕ, true, All, ⊤}
use Rattle.debuggee.specs.Programs.{Debuggee, is_running}
use Rattle.replies.specs.declared.event.Event.TheVariants as event
use Rattle.replies.specs.declared.message.Message.{Message}
use Rattle.replies.specs.declared.message.Message.TheVariants.{Response as IsResponse, Event as IsEvent}
use Rattle.session_laws.specs.Laws.{RunsAs}
use Rattle.session.specs.Sessions.{Session, Said, life_of}

-- a message that tells output is of a program that runs
abbrev pub PrintsRunning : Message → Debuggee → Type 0
PrintsRunning (IsResponse r) d = ⊤
PrintsRunning (IsEvent (event.Output output)) d = RunsAs (λ run. is_running run ≡ true) d
PrintsRunning (IsEvent (event.Stopped stop)) d = ⊤
PrintsRunning (IsEvent event.Continued) d = ⊤
PrintsRunning (IsEvent (event.Exited exit)) d = ⊤
PrintsRunning (IsEvent event.Terminated) d = ⊤
PrintsRunning (IsEvent event.Initialized) d = ⊤

-- Output is told while the program runs, on each connection.
abbrev pub WhatIsPrintedRuns : Session → Type 0
WhatIsPrintedRuns s = (c : ℕ) → All (λ (m : Said). PrintsRunning m.message m.snapshot.debuggee) (life_of c s).said
