-- When a request to go back is refused since nothing is recorded (DAP specification, `StepBackRequest`,
-- `ReverseContinueRequest`).
--
-- It is refused with `noHistory` exactly where no earlier reason to refuse it applies, as that the program runs, and no move
-- is recorded. So wherever a move is recorded that can be undone, it can be undone.
use Rattle.std.specs.Prelude.{◌≡◌, ◌↔◌, ℕ, true, List, Option, Some, None, is_some}
use Rattle.protocol.specs.declared.refusal.Refusal.TheVariants.{NoHistory}
use Rattle.protocol.specs.declared.request.Request.{Request}
use Rattle.replies.specs.declared.response.Outcome.TheVariants.{Refused}
use Rattle.session.specs.declared.link.Link.{Link}
use Rattle.queues.specs.declared.pending.Fate.{Fate}
use Rattle.session.specs.Sessions.{Session}
use Rattle.session_laws.specs.Intents.{intent_of}
use Rattle.session_laws.specs.Lifetimes.{IsNotRefusedBefore, outcome_next}
use Rattle.history_laws.specs.GoingBack.{goal_of}
use Rattle.history_laws.specs.Recorded.{recorded_of}

abbrev pub NoHistoryExactly : Session → Type 0
NoHistoryExactly s = (link : Link) (file : Option (List ℕ)) (r : Request) (fate : Fate) → s.now.link ≡ Some link
    → is_some (goal_of (intent_of r.command)) ≡ true
    → (outcome_next s link file r fate ≡ Refused NoHistory None)
    ↔ (IsNotRefusedBefore s link r fate × (recorded_of s.now.debuggee.program ≡ 0))
