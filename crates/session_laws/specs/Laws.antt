-- What holds of a session whatever happened, in the words of requests, answers and bytes.
--
-- What happened is any list (`Reached` of `session`): requests cut anywhere, repeated or cancelled, turns and bytes taken
-- in between, connections that end and others that follow, events that are refused, and slices that found no memory and
-- broke off, wherever they did.
use Rattle.std.specs.Prelude.{◌≡◌, ◌≢◌, ℕ, ◌+◌, ◌<◌, ◌≤◌, List, [], ◌∷◌, ◌++◌, map, flat_map, All, Some, Ok, Err}
use Rattle.std.specs.Prelude.{◌⊎◌, ◌&&◌, Bool, true, false, is_some, None, Option, MatchOption, bytes_eq, ⊤}
use Rattle.debuggee.specs.Programs.{Debuggee, is_ended, is_running}
use Rattle.debuggee.specs.declared.run.Run.{Run}
use Rattle.debuggee.specs.declared.run.Run.TheVariants.{Running, Stopped as StandsStill, Ended}
use Rattle.protocol.specs.declared.disconnect.TheConstants.{NAME as DISCONNECT}
use Rattle.protocol.specs.declared.pause.TheConstants.{NAME as PAUSE}
use Rattle.message_parts.specs.declared.exited.Exited.{Exited}
use Rattle.message_parts.specs.declared.stopped.Stopped.{Stopped}
use Rattle.replies.specs.declared.event.Event.TheVariants as event
use Rattle.replies.specs.declared.response.Response.{Response}
use Rattle.handlers.specs.Telling.{reason_of, text_of}
use Rattle.framing.specs.Reading.{reading_of}
use Rattle.replies.specs.declared.message.Message.{Message}
use Rattle.replies.specs.declared.message.Message.TheVariants.{Response as IsResponse, Event as IsEvent}
use Rattle.replies.specs.Messages.{IsProper}
use Rattle.session.specs.declared.TheConstants.{BODY_LIMIT}
use Rattle.session.specs.declared.event.Applied.TheVariants.{Recv as Received}
use Rattle.session.specs.declared.event.Event.{Event}
use Rattle.session.specs.declared.event.Event.TheVariants.{Connect, Recv, Turn, Slice, Hold, Sent, DropConnection}
use Rattle.session.specs.declared.event.EventError.{EventError}
use Rattle.session.specs.declared.event.EventError.TheVariants.{Closing}
use Rattle.session.specs.declared.link.Link.{Link}
use Rattle.queues.specs.declared.pending.Ask.{Ask}
use Rattle.queues.specs.declared.pending.Pending.{Pending}
use Rattle.session.specs.Kinds.{initializes, is_resume, is_success}
use Rattle.session.specs.Acts.{fault_of_reading}
use Rattle.queues.specs.Arrivals.{number_of, name_asked, asks_of}
use Rattle.session.specs.Prefixes.{IsPrefixOf}
use Rattle.session.specs.Reached.{Happened, Whole, Cut, OfEvent, leaves}
use Rattle.session.specs.Sessions.{Session, Life, Said, life_of, bytes_of, histories, Effect, Answer}
use Rattle.session.specs.Effects.{beats, enough, sliced}
use Rattle.session_laws.specs.Turns.{Answered, answered}

-- ---- connections

-- The life of the last connection that was made is at the place that is its number.
abbrev pub LivesAreNumbered : Session → Type 0
LivesAreNumbered s = life_of s.now.connections s ≡ s.life

-- ---- bytes

-- What was taken of a connection is a prefix of its bytes. On the present connection the bytes that wait are the rest; without one
-- none wait.
pub record EveryByteIsTakenOrWaits (s : Session) : Type 0 where
  pub prefixes : (c : ℕ) → IsPrefixOf (life_of c s).taken (bytes_of (life_of c s))
  pub rest : (link : Link) → s.now.link ≡ Some link → bytes_of s.life ≡ s.life.taken ++ s.waiting
  pub none : s.now.link ≡ None → s.waiting ≡ []

-- messages have the numbers from this one on
abbrev pub AreNumberedFrom : ℕ → List Said → Type 0
AreNumberedFrom n [] = Unit {0}
AreNumberedFrom n (m ∷ messages) = (m.seq ≡ n) × AreNumberedFrom (n + 1) messages

-- The messages of each connection have the numbers 1, 2, 3 and so on.
abbrev pub NumbersRise : Session → Type 0
NumbersRise s = (c : ℕ) → AreNumberedFrom 1 (life_of c s).said

-- ---- requests and answers

-- a request, or the one that an answer names: its number and its name
pub record Named : Type 0 where
  pub number : ℕ
  pub name : List ℕ

-- a request by its number and name
abbrev pub asked_as : Ask → Named
asked_as ask = record { number = number_of ask; name = name_asked ask }

-- the request that a message answers, which an event does not
abbrev pub names : Message → List Named
names (IsResponse r) = record { number = r.request_seq; name = r.command } ∷ []
names (IsEvent e) = []

-- the request that a message answers, as it was queued, if it answers one
abbrev pub answered_as : Said → List Named
answered_as m = names m.message

-- the requests that came on a connection
abbrev pub asked_in : Life → List Named
asked_in life = map asked_as life.heard

-- the requests that were answered on it
abbrev pub answered_in : Life → List Named
answered_in life = flat_map answered_as life.said

-- the requests that wait
abbrev pub pending_as : List Pending → List Named
pending_as pending = map (λ p. asked_as p.ask) pending

-- The requests of a connection have one answer each, in the order in which they came, for a prefix of them; on the
-- present connection, as long as there are numbers for answers, the others are those that wait.
pub record AnswersInOrder (s : Session) : Type 0 where
  pub prefixes : (c : ℕ) → IsPrefixOf (answered_in (life_of c s)) (asked_in (life_of c s))
  pub rest : (link : Link) → s.now.link ≡ Some link → link.seq < s.now.limits.last_seq
      → asked_in s.life ≡ answered_in s.life ++ pending_as s.now.arrivals.pending

-- The requests that came on a connection are those of the bytes that were accepted on it: of the bodies of its frames,
-- in order, up to the first that is no message.
abbrev pub RequestsAreRead : Session → Type 0
RequestsAreRead s =
    (c : ℕ) → (life_of c s).heard ≡ asks_of (reading_of BODY_LIMIT (life_of c s).accepted).bodies

-- What closed the last connection that was made is the fault of the bytes that were accepted on it, if they have one:
-- its first body that is no message, or the frame that cannot continue.
abbrev pub FaultIsOfTheBytes : Session → Type 0
FaultIsOfTheBytes s = s.now.fault ≡ fault_of_reading (reading_of BODY_LIMIT s.life.accepted)

-- a piece is accepted
abbrev pub IsTaken : Session → List ℕ → Type 0
IsTaken s piece = Answer s (Recv piece) ≡ Ok Received

-- Two pieces, one after the other, leave what they leave as one: where all three are accepted, or where the first
-- closes the connection.
abbrev pub CutsDoNotMatter : Session → Type 0
CutsDoNotMatter s = (prefix after : List ℕ) → IsTaken s prefix → IsTaken s (prefix ++ after)
    → IsTaken (Effect s (Recv prefix)) after ⊎ (Answer (Effect s (Recv prefix)) (Recv after) ≡ Err Closing)
    → Effect (Effect s (Recv prefix)) (Recv after) ≡ Effect s (Recv (prefix ++ after))

-- An event that is refused changes nothing.
abbrev pub RefusedChangesNothing : Session → Type 0
RefusedChangesNothing s = (e : Event) (error : EventError) → Answer s e ≡ Err error → Effect s e ≡ s

-- Each message is one that an adapter may send: a success has the body of its request, a refusal a text exactly if it
-- is of the kind that has one, and numbers are values of their types.
abbrev pub AnswersAreProper : Session → Type 0
AnswersAreProper s = (c : ℕ) → All (λ (m : Said). IsProper m.message) (life_of c s).said

-- how often a message succeeds in `initialize`
abbrev pub initializes_by : Message → ℕ
initializes_by (IsResponse r) = initializes r.outcome
initializes_by (IsEvent e) = 0

-- how often `initialize` succeeded
abbrev pub times_initialized : List Said → ℕ
times_initialized [] = 0
times_initialized (m ∷ messages) = initializes_by m.message + times_initialized messages

-- `initialize` succeeds once at most on a connection (`InitializeRequest`).
abbrev pub InitializesOnce : Session → Type 0
InitializesOnce s = (c : ℕ) → times_initialized (life_of c s).said ≤ 1

-- ---- what is told of the program

-- a stop gives the reason for which the program stands still
abbrev pub IsStop : Stopped → Run → Type 0
IsStop stop (StandsStill why) = (stop.reason ≡ reason_of why) × (stop.text ≡ text_of why)
IsStop stop Running = ⊥
IsStop stop (Ended code) = ⊥

-- an exit gives the code with which it has ended
abbrev pub IsExit : Exited → Run → Type 0
IsExit exit (Ended (Some code)) = exit.exit_code ≡ code
IsExit exit (Ended None) = ⊥
IsExit exit Running = ⊥
IsExit exit (StandsStill why) = ⊥

-- there is a program, and it runs so
abbrev pub RunsAs : (Run → Type 0) → Debuggee → Type 0
RunsAs P d = MatchOption d.program ⊥ (λ p. P p.run)

-- a success of a request that lets the program run, and does nothing else
abbrev pub resumes : Response → Bool
resumes r = is_success r.outcome && is_resume r.command

-- What a message says of the program's run is so of this program: that it stands still, and why; that it continues; that
-- it has ended, and with which code.
abbrev pub SaysItsRun : Message → Debuggee → Type 0
SaysItsRun (IsResponse r) d = resumes r ≡ true → RunsAs (λ run. is_running run ≡ true) d
SaysItsRun (IsEvent (event.Stopped stop)) d = RunsAs (IsStop stop) d
SaysItsRun (IsEvent event.Continued) d = RunsAs (λ run. is_running run ≡ true) d
SaysItsRun (IsEvent (event.Exited exit)) d = RunsAs (IsExit exit) d
SaysItsRun (IsEvent event.Terminated) d = RunsAs (λ run. is_ended run ≡ true) d
SaysItsRun (IsEvent event.Initialized) d = ⊤
SaysItsRun (IsEvent (event.Output output)) d = ⊤

-- Each message says of the program's run what is so of the program as it was when the message was queued.
abbrev pub RunsAreTold : Session → Type 0
RunsAreTold s = (c : ℕ) → All (λ (m : Said). SaysItsRun m.message m.snapshot.debuggee) (life_of c s).said

-- ---- time

-- Two slices, one after the other, leave what one of all their moves leaves, and as many moves are made in them.
abbrev pub SlicesJoin : Session → Type 0
SlicesJoin s = (a b : ℕ) → let first = sliced histories a s in let second = sliced histories b first.state in
    let whole = sliced histories (a + b) s in (second.state ≡ whole.state) × (first.moved + second.moved ≡ whole.moved)

-- Each slice ends within the beats that are enough for its moves: more of them would change nothing.
abbrev pub SlicesEnd : Session → Type 0
SlicesEnd s = (n : ℕ) → ((sliced histories n s).ending ≢ None)
    × ((more : ℕ) → beats histories n (enough n + more) s ≡ sliced histories n s)

-- the program runs, and is marked to stop
abbrev pub IsMarked : Debuggee → Type 0
IsMarked d = MatchOption d.program ⊥ (λ p. (is_running p.run ≡ true) × (is_some p.mark ≡ true))

-- it does not run
abbrev pub IsAtRest : Debuggee → Type 0
IsAtRest d = RunsAs (λ run. is_running run ≡ false) d

-- a request of this name is answered with success
abbrev pub succeeds : List ℕ → Answered → Bool
succeeds name a = bytes_eq (name_asked a.request.ask) name && is_success a.answer.outcome

-- a turn answers a `disconnect` with success; one that is refused, or waits behind something, ends nothing
abbrev pub Disconnects : Option Answered → Type 0
Disconnects None = ⊥
Disconnects (Some a) = succeeds DISCONNECT.now a ≡ true

-- the editor leaves with this event: where one is connected, its connection ends
abbrev pub EditorLeaves : Session → Event → Type 0
EditorLeaves s DropConnection = is_some s.now.link ≡ true
EditorLeaves s (Turn file) = Disconnects (answered (histories.see s) file)
EditorLeaves s Connect = ⊥
EditorLeaves s (Recv piece) = ⊥
EditorLeaves s (Slice n) = ⊥
EditorLeaves s Hold = ⊥
EditorLeaves s (Sent n) = ⊥

-- no instruction retires in it, and none is undone
abbrev pub RetiresNone : Session → Happened → Type 0
RetiresNone s (Whole (Slice n)) = (sliced histories n s).moved ≡ 0
RetiresNone s (Whole e) = ⊤
RetiresNone s (Cut n count) = (beats histories n count s).moved ≡ 0

-- No instruction retires in any of these, and none is undone, until one after which the program does not run, or with
-- which the editor leaves.
abbrev pub RetiresNoneIn : List Happened → Session → Type 0
RetiresNoneIn [] s = ⊤
RetiresNoneIn (x ∷ happened) s = RetiresNone s x
    × (IsAtRest (leaves s x).now.debuggee ⊎ (OfEvent (EditorLeaves s) x ⊎ RetiresNoneIn happened (leaves s x)))

-- A program that runs and is marked retires no instruction and undoes none, whatever happens.
abbrev pub MarkedRetiresNone : Session → Type 0
MarkedRetiresNone s = IsMarked s.now.debuggee → (happened : List Happened) → RetiresNoneIn happened s

-- the program is marked after it, if it answers a `pause` with success
abbrev pub Pauses : Option Answered → Debuggee → Type 0
Pauses None after = ⊤
Pauses (Some a) after = succeeds PAUSE.now a ≡ true → IsMarked after

-- A turn that answers a `pause` with success leaves a program marked that ran (`PauseRequest`).
abbrev pub PauseMarks : Session → Type 0
PauseMarks s = (file : Option (List ℕ)) → RunsAs (λ run. is_running run ≡ true) s.now.debuggee
    → Pauses (answered (histories.see s) file) (Effect s (Turn file)).now.debuggee
