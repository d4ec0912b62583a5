-- What holds of references after any list of events (DAP specification, "Lifetime of Objects References").
--
-- A reference is good in the stop and on the connection on which it was issued. After that it is stale, for ever: its
-- number is given to nothing else.
use Rattle.std.specs.Prelude.{◌≡◌, ◌↔◌, ◌⊎◌, ℕ, ℤ, pos, ◌<◌, Bool, true, false, List, length, map, Option, Some, None, slice_get}
use Rattle.protocol.specs.declared.command.Command.{Command}
use Rattle.protocol.specs.declared.command.Command.TheVariants as one
use Rattle.protocol.specs.declared.refusal.Refusal.TheVariants.{StaleReference, UnknownReference}
use Rattle.protocol.specs.declared.request.Request.{Request}
use Rattle.replies.specs.declared.response.Outcome.{Outcome}
use Rattle.replies.specs.declared.response.Outcome.TheVariants.{Done, Refused}
use Rattle.replies.specs.declared.response.ResponseBody.{ResponseBody}
use Rattle.session.specs.declared.link.Link.{Link}
use Rattle.queues.specs.declared.pending.Ask.TheVariants as ask
use Rattle.queues.specs.declared.pending.Fate.{Fate}
use Rattle.handlers.specs.Demands.{run_of}
use Rattle.session.specs.References.{Reference, past_of}
use Rattle.variables.specs.Numbers.{StandsFor}
use Rattle.handlers.specs.Refusals.{first_refusal, refusals}
use Rattle.session.specs.Outcomes.{answer_to}
use Rattle.session.specs.Sessions.{Session}
use Rattle.variables.specs.Laws.{down_from}
use Rattle.variables.specs.declared.target.Target.{Target}
use Rattle.variables.specs.declared.target.Target.TheVariants.{Frame, Registers, Stack}

-- ---- what was issued

-- References have the numbers 1, 2, 3 and so on for as long as the server lives: none is issued twice. Newest first,
-- they fall to 1.
abbrev pub ReferencesRise : Session → Type 0
ReferencesRise s = map (λ r. r.number) s.references.issued ≡ down_from (length s.references.issued)

-- a reference that was issued, and this is so of it
pub record WasIssued (s : Session) (IsSo : Reference → Type 0) : Type 0 where
  pub reference : Reference
  pub place : ℕ
  pub there : slice_get s.references.issued place ≡ Some reference
  pub so : IsSo reference

-- A number names a reference that was issued in this stop, on this connection.
abbrev pub IsGood : Session → ℤ → Type 0
IsGood s number = WasIssued s (λ r.
    (number ≡ pos r.number) × ((r.stop ≡ s.references.stop) × (r.connection ≡ s.now.connections)))

-- It names one that was issued in an earlier stop.
abbrev pub IsStale : Session → ℤ → Type 0
IsStale s number = WasIssued s (λ r. (number ≡ pos r.number) × (r.stop < s.references.stop))

-- ---- what requests name

-- the number by which a request names a frame, or a scope of variables
abbrev pub reference_in : Command → Option ℤ
reference_in (one.Initialize arguments) = None
reference_in (one.Launch arguments) = None
reference_in one.Attach = None
reference_in one.ConfigurationDone = None
reference_in one.Threads = None
reference_in (one.Cancel arguments) = None
reference_in one.Restart = None
reference_in one.Terminate = None
reference_in (one.Disconnect arguments) = None
reference_in (one.SetBreakpoints arguments) = None
reference_in (one.SetFunctionBreakpoints arguments) = None
reference_in (one.SetInstructionBreakpoints arguments) = None
reference_in one.SetExceptionBreakpoints = None
reference_in (one.Continue arguments) = None
reference_in (one.Next arguments) = None
reference_in (one.StepIn arguments) = None
reference_in (one.StepOut arguments) = None
reference_in (one.StepBack arguments) = None
reference_in (one.ReverseContinue arguments) = None
reference_in (one.Pause arguments) = None
reference_in (one.StackTrace arguments) = None
reference_in (one.Scopes arguments) = Some arguments.frame_id
reference_in (one.Variables arguments) = Some arguments.variables_reference
reference_in (one.SetVariable arguments) = Some arguments.variables_reference
reference_in (one.Evaluate arguments) = arguments.frame_id
reference_in (one.Disassemble arguments) = None
reference_in (one.ReadMemory arguments) = None
reference_in (one.WriteMemory arguments) = None

-- whether what it refers to is of another kind than the request asks for
abbrev pub is_no_frame : Target → Bool
is_no_frame (Frame index) = false
is_no_frame Registers = true
is_no_frame Stack = true

abbrev pub is_no_scope : Target → Bool
is_no_scope (Frame index) = true
is_no_scope Registers = false
is_no_scope Stack = false

abbrev pub is_of_other_kind : Command → Target → Bool
is_of_other_kind (one.Scopes arguments) target = is_no_frame target
is_of_other_kind (one.Evaluate arguments) target = is_no_frame target
is_of_other_kind other target = is_no_scope target

-- A number was never issued, or in this stop for something of another kind.
abbrev pub IsUnknown : Session → Command → ℤ → Type 0
IsUnknown s command number = (WasIssued s (λ r. number ≡ pos r.number) → ⊥)
    ⊎ WasIssued s (λ r. (number ≡ pos r.number) × ((r.stop ≡ s.references.stop) × (is_of_other_kind command r.target ≡ true)))

-- The numbers of the present stop are those of all references that were ever issued: the next number, what each number
-- refers to, and the number of each target.
abbrev pub ReferencesStand : Session → Type 0
ReferencesStand s = StandsFor s.now.numbers (past_of s.references)

-- ---- what they are answered

-- the answer to a request, were it the next
abbrev pub outcome_next : Session → Link → Option (List ℕ) → Request → Fate → Outcome
outcome_next s link file r fate = (answer_to s.now link.terms file (record { ask = ask.Request r; fate = fate })).outcome

-- no reason that comes earlier in the list of reasons applies to it
abbrev pub IsNotRefusedBefore : Session → Link → Request → Fate → Type 0
IsNotRefusedBefore s link r fate =
    first_refusal (refusals (run_of s.now.debuggee.program) link.terms.phase (record { ask = ask.Request r; fate = fate })) ≡ None

-- Whatever request names a number: it succeeds only with a good one; it is refused as stale exactly where it is not refused
-- before and the number is stale, and as unknown exactly where it is not refused before and the number is unknown.
pub record ReferencesAreGood (s : Session) (link : Link) (file : Option (List ℕ)) (r : Request) (fate : Fate) (number : ℤ) : Type 0 where
  pub good : (body : ResponseBody) → outcome_next s link file r fate ≡ Done body → IsGood s number
  pub stale : (outcome_next s link file r fate ≡ Refused StaleReference None) ↔ (IsNotRefusedBefore s link r fate × IsStale s number)
  pub unknown : (outcome_next s link file r fate ≡ Refused UnknownReference None) ↔ (IsNotRefusedBefore s link r fate × IsUnknown s r.command number)

abbrev pub ReferencesLast : Session → Type 0
ReferencesLast s = (link : Link) (file : Option (List ℕ)) (r : Request) (fate : Fate) (number : ℤ) → s.now.link ≡ Some link
    → reference_in r.command ≡ Some number → ReferencesAreGood s link file r fate number
