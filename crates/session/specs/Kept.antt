-- What the code of a session keeps, and which sessions with a past it represents.
use Rattle.std.specs.Prelude.{◌≡◌, ℕ, nat_lt, ◌+◌, ◌==◌, if◌then◌else◌, true, List, [], ◌∷◌, ◌++◌}
use Rattle.std.specs.Prelude.{length, Option, Some, None, Result, Ok, Err, ⊤}
use Rattle.replies.specs.declared.message.Message.{Message}
use Rattle.replies.specs.declared.message.Message.TheVariants.{Event as IsEvent}
use Rattle.session.specs.declared.event.Applied.{Applied}
use Rattle.session.specs.declared.event.Event.{Event}
use Rattle.session.specs.declared.event.EventError.{EventError}
use Rattle.session.specs.declared.limits.Limits.{Limits}
use Rattle.session.specs.declared.link.Link.{Link}
use Rattle.queues.specs.declared.pending.Pending.{Pending}
use Rattle.handlers.specs.declared.terms.Terms.{Terms}
use Rattle.debuggee.specs.Programs.{Program}
use Rattle.replies.specs.declared.event.Event.{Event as AnEvent}
use Rattle.handlers.specs.declared.change.Change.{Change}
use Rattle.handlers.specs.Changes.{call_of, changed}
use Rattle.session.specs.Acts.{Now, Seen}
use Rattle.session.specs.References.{no_references, referred}
use Rattle.variables.specs.Laws.{Call}
use Rattle.variables.specs.Laws.Call.{EndStop, Issue}
use Rattle.variables.specs.Numbers.{Numbers, has_room}
use Rattle.session.specs.Effects.{World, Ends}
use Rattle.session.specs.Phases.{is_active}
use Rattle.session.specs.Sessions.{Session, agreed_on, histories, no_life, nothing_with, performed_on}
use Rattle.queues.specs.Writing.{frame_of}

-- what a session is now, and the bytes that wait
pub record Kept : Type 0 where
  pub now : Now
  pub waiting : List ℕ

-- what is kept of a session
abbrev pub kept_of : Session → Kept
kept_of s = record { now = s.now; waiting = s.waiting }

-- What is kept represents each session that it is kept of.
abbrev pub Stands : Kept → Session → Type 0
Stands k s = k ≡ kept_of s

-- what is kept, as a session without a past
abbrev pub alone : Kept → Session
alone k = record { now = k.now; waiting = k.waiting; before = []; life = no_life; references = no_references }

-- what is kept after this was made of a session that needs no past for it, as an act
abbrev pub keeps : (Session → Session) → Kept → Kept
keeps f k = kept_of (f (alone k))

-- what is kept, as events see it
abbrev pub keepings : World Kept
keepings = record { see = λ k. record { now = k.now; waits = length k.waiting }; perform = λ act. keeps (performed_on act) }

-- what is seen of what is kept
abbrev pub see_kept : Kept → Seen
see_kept k = keepings.see k

-- before anything happened
abbrev pub nothing_kept : Limits → ℕ → Option Program → Kept
nothing_kept limits size program = record { now = nothing_with limits size program; waiting = [] }

-- ---- for private clauses alone: an answer, and messages that are written before any of them is queued

-- there are numbers for what is issued
abbrev pub HasNumbers : Option Call → Numbers → Type 0
HasNumbers None numbers = ⊤
HasNumbers (Some (Issue targets)) numbers = has_room numbers targets ≡ true
HasNumbers (Some EndStop) numbers = ⊤

-- what a session is after a change
abbrev pub now_changed : Change → Now → Now
now_changed c now =
    record now { debuggee = changed c now.debuggee; numbers = referred (call_of c) now.numbers }

-- what is kept after a change on a connection, and what is agreed with it
abbrev pub kept_changed : Change → Terms → Kept → Kept
kept_changed c terms k = keeps (agreed_on k.now.link terms) (record k { now = now_changed c k.now })

-- their bytes, and the last number given
pub record Drafted : Type 0 where
  pub bytes : List ℕ
  pub seq : ℕ

-- before the first: without a connection no number is left
abbrev pub draft_on : Limits → Option Link → Drafted
draft_on limits None = record { bytes = []; seq = limits.last_seq }
draft_on limits (Some link) = record { bytes = []; seq = link.seq }

-- one message more
abbrev pub drafted : Limits → Message → Drafted → Drafted
drafted limits message d = if nat_lt d.seq limits.last_seq
    then record { bytes = d.bytes ++ frame_of (d.seq + 1) message; seq = d.seq + 1 } else d

-- a draft after events, one after the other
abbrev pub drafted_all : Limits → List AnEvent → Drafted → Drafted
drafted_all limits [] d = d
drafted_all limits (event ∷ events) d = drafted_all limits events (drafted limits (IsEvent event) d)

-- the events that an editor is told, if it has said all
abbrev pub draft_told : Limits → Option Link → List AnEvent → Drafted
draft_told limits link events =
    if is_active link then drafted_all limits events (draft_on limits link) else draft_on limits link

-- what a session is after messages up to that number, where these requests wait then
abbrev pub settled : Option Link → ℕ → List Pending → Now → Now
settled None seq rest now = now
settled (Some link) seq rest now = let is_last = seq == now.limits.last_seq in
    if nat_lt link.seq seq then record now {
      link = Some (record link { seq = seq; is_closing = if is_last then true else link.is_closing });
      arrivals = record now.arrivals { pending = if is_last then [] else rest };
    } else now

-- a call's answer among those of all calls
abbrev pub answered : {X : Type 0} → (X → Applied) → Result X EventError → Result Applied EventError
answered f (Ok x) = Ok (f x)
answered f (Err e) = Err e

-- For each session with a past that was represented: the answer is the event's there, and what is kept then represents what
-- the event leaves.
pub record Happens (old : Kept) (e : Event) (result : Result Applied EventError) (new : Kept) : Type 0 where
  pub to_each : (s : Session) → Stands old s → Ends histories s e result (λ t. Stands new t)

-- what holds for each session with a past that is represented
abbrev pub OfEach : Kept → (Session → Type 0) → Type 0
OfEach k P = (s : Session) → Stands k s → P s

-- what the event does to what is kept, for private clauses alone
abbrev pub Goes : Kept → Event → Result Applied EventError → Kept → Type 0
Goes old e result new = Ends keepings old e result (λ k. new ≡ k)
