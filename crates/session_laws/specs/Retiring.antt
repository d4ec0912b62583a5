-- What has retired, as long as the program lasts.
--
-- A session keeps no instruction that has retired. Of all that retired since the program was loaded or restarted there
-- is a list all the same: a list of events settles it, event by event, and a slice beat by beat. In a beat one move is
-- made or none. Where one is made the instruction at pc retires; or, where the program goes back, the last that retired is
-- undone, if its move is recorded. A success of `launch` or of `restart` begins the list anew. The call stack that an
-- editor sees, and the count of instructions, are those of this list.
--
-- Each word has one decoding (the laws `each_word_is_decoded` and `decoding_is_unique` of `rv32i`): `the_decoding` is that
-- one, by its type alone.
use Rattle.std.specs.Prelude.{◌≡◌, ℕ, zero, suc, ◌-◌, nat_lt, Bool, true, false, ◌&&◌, if◌then◌else◌, List, [], ◌∷◌, ◌++◌}
use Rattle.std.specs.Prelude.{length, take, Option, Some, None, Result, Ok, Err}
use Rattle.answers.specs.StackTrace.{addresses}
use Rattle.debuggee.specs.Programs.{Program}
use Rattle.image.specs.Memory.{word_at}
use Rattle.image.specs.declared.fault.MemFault.{MemFault}
use Rattle.rv32i.proofs.Moving.{the_decoding}
use Rattle.rv32i.specs.declared.instr.Instr.{Instr}
use Rattle.session.specs.declared.event.Event.{Event}
use Rattle.session.specs.declared.event.Event.TheVariants.{Connect, Recv, Turn, Slice, Hold, Sent, DropConnection}
use Rattle.session.specs.declared.event.SliceEnd.{SliceEnd}
use Rattle.queues.specs.declared.pending.Ask.{Ask}
use Rattle.queues.specs.declared.pending.Ask.TheVariants.{Request, Bad}
use Rattle.session.specs.Effects.{Slicing, beats, enough}
use Rattle.session.specs.Kinds.{is_success}
use Rattle.session.specs.Reached.{Happened, Whole, Cut, Reached, leaves}
use Rattle.session.specs.Sessions.{Beginning, Session, histories, start}
use Rattle.session.specs.Slices.{beat}
use Rattle.session_laws.specs.Intents.{Intent, Load, LoadAnew, Begin, End, Change, GoBack, Other, intent_of}
use Rattle.session_laws.specs.Turns.{Answered, answered}
use Rattle.course.specs.Calls.{calls_of}
use Rattle.course.specs.Marks.{Retired}
use Rattle.course.specs.Positions.{Position}
use Rattle.stepping.specs.Goals.{turns_back}
use Rattle.stepping.specs.Past.{Remembers}
use Rattle.stepping.specs.Ticks.{Debugged}

-- ---- a beat

-- the instruction of the word that was fetched, if there is one
abbrev pub decoded : Result ℕ MemFault → Option Instr
decoded (Ok word) = (the_decoding word).instr
decoded (Err fault) = None

-- an instruction with its address, if there is one
abbrev pub at_address : ℕ → Option Instr → List Retired
at_address pc None = []
at_address pc (Some instr) = record { instr = instr; pc = pc } ∷ []

-- the instruction at pc
abbrev pub at_pc : Debugged → List Retired
at_pc d = at_address d.hart.pc (decoded (word_at d.memory d.hart.pc))

-- all but the last, where a move is recorded
abbrev pub without_last : List Position → List Retired → List Retired
without_last [] retired = retired
without_last (before ∷ past) retired = take (length retired - 1) retired

-- what has retired after a move
abbrev pub moved_on : Debugged → List Retired → List Retired
moved_on d retired = if turns_back d.goal then without_last d.past retired else retired ++ at_pc d

abbrev pub after_move : Option Program → List Retired → List Retired
after_move None retired = retired
after_move (Some p) retired = moved_on p.machine retired

-- what has retired after a beat, by how many moves are made in it
abbrev pub and_next : ℕ → Option Program → List Retired → List Retired
and_next zero program retired = retired
and_next (suc n) program retired = after_move program retired

-- ---- a slice

abbrev pub after_next : ℕ → Option SliceEnd → Slicing Session → List Retired → List Retired
after_next n (Some e) d retired = retired
after_next n None d retired =
    and_next (beat (histories.see d.state) (nat_lt d.moved n)).moved d.state.now.debuggee.program retired

-- after this many beats of a slice of n moves
abbrev pub retired_in : ℕ → ℕ → Session → List Retired → List Retired
retired_in n zero s retired = retired
retired_in n (suc k) s retired =
    after_next n (beats histories n k s).ending (beats histories n k s) (retired_in n k s retired)

-- ---- a turn

-- whether a request has the program loaded, or loaded anew
abbrev pub loads : Intent → Bool
loads Load = true
loads LoadAnew = true
loads Begin = false
loads End = false
loads Change = false
loads (GoBack goal) = false
loads Other = false

abbrev pub asks_to_load : Ask → Bool
asks_to_load (Request r) = loads (intent_of r.command)
asks_to_load (Bad seq name refusal) = false

-- whether an answer says that it was
abbrev pub begins_anew : Answered → Bool
begins_anew a = asks_to_load a.request.ask && is_success a.answer.outcome

abbrev pub after_answer : Option Answered → List Retired → List Retired
after_answer None retired = retired
after_answer (Some a) retired = if begins_anew a then [] else retired

-- ---- all that happens

-- what has retired after an event
abbrev pub and_retired : Session → Event → List Retired → List Retired
and_retired s Connect retired = retired
and_retired s (Recv piece) retired = retired
and_retired s (Turn file) retired = after_answer (answered (histories.see s) file) retired
and_retired s (Slice n) retired = retired_in n (enough n) s retired
and_retired s Hold retired = retired
and_retired s (Sent n) retired = retired
and_retired s DropConnection retired = retired

-- or after a slice that was cut
abbrev pub retired_by : Session → Happened → List Retired → List Retired
retired_by s (Whole e) retired = and_retired s e retired
retired_by s (Cut n count) retired = retired_in n count s retired

abbrev pub retired_after : List Happened → Session → List Retired → List Retired
retired_after [] s retired = retired
retired_after (x ∷ happened) s retired = retired_after happened (leaves s x) (retired_by s x retired)

-- All that has retired since the program was loaded or restarted, each instruction with its address, the oldest first.
abbrev pub retired_of : Beginning → List Happened → List Retired
retired_of from events = retired_after events (start from) []

-- ---- the law

-- these have retired in the machine of the program; none has where there is no program
abbrev pub IsPast : Option Program → List Retired → Type 0
IsPast None retired = retired ≡ []
IsPast (Some p) retired = Remembers p.machine retired

-- Whatever happens, the depth, the calls and the count of the program's machine are those of what has retired.
abbrev pub PastIsRemembered : Type 0
PastIsRemembered = (from : Beginning) (events : List Happened)
    → IsPast (Reached from events).now.debuggee.program (retired_of from events)

-- The frames of the program are at pc, and at the calls that are kept of what has retired, the newest first.
abbrev pub FramesAreOfThePast : Type 0
FramesAreOfThePast = (from : Beginning) (events : List Happened) (p : Program)
    → (Reached from events).now.debuggee.program ≡ Some p
    → addresses p.machine ≡ p.machine.hart.pc ∷ calls_of (retired_of from events)
