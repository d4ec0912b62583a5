-- The machine of the program remembers all that has retired since it was loaded or restarted.
use Rattle.session_laws.proofs.Common.{[], Accept, and_right, AnEvent as Event, answer_to, Answering, ap, arith, assembled, assembles, back_of, Beat, beat, beats, Bool, by_success, BySuccess, Command, concluded, cond, Cut, Debugged, Debuggee, departed, Effect, ended, enough, entered, Err, false, fault_at, first_program, first_run, given_of, Happened, Has, histories, inl, inr, Instr, is_success, is_to_end, is_to_stand, IsDecoding, IsFetched, just_loaded, leaves, led_to, left, length, length-append, List, looked_at, ltb, Machine, machine_of, makes_move, Mark, marked, marked_by, MatchResult, MemFault, move_leaves, moved, next_by, next_tick, None, Now, of_answer, Ok, on_program, Open, Option, past_left, Pending, performed, Position, Program, refl, restarted, Result, resumed, Run, Session, Slice, sliced, SliceEnd, Slicing, Some, start, stays, stopped, stops, subst, suc, success_of, sym, take, take_at, Terms, the_tick, Tick, told, true, Turn, turns_back, undone, undone_by, unless_fault, Whole, with_hart, with_list, word_at, written, zero, ℕ, ◌&&◌, ◌++◌, ◌+◌, ◌-◌, ◌∙◌, ◌∷◌, ◌≡◌}
use Rattle.assembler.specs.Placed.{error_of}
use Rattle.assembler.specs.declared.error.AsmError.{AsmError}
use Rattle.course.proofs.Standing.{nothing_stands}
use Rattle.course.specs.Calls.{nothing_kept}
use Rattle.course.specs.Marks.{Retired}
use Rattle.debuggee.specs.declared.run.Mark.TheVariants as mark
use Rattle.protocol.specs.declared.command.Command.TheVariants as command
use Rattle.protocol.specs.declared.launch.LaunchArguments.{LaunchArguments}
use Rattle.rv32i.proofs.Moving.{the_decoding}
use Rattle.session_laws.specs.Intents.{intent_of}
use Rattle.session_laws.specs.Retiring.{FramesAreOfThePast, IsPast, PastIsRemembered, after_answer, after_next, and_next, and_retired, asks_to_load, at_address, at_pc, decoded, loads, moved_on, retired_after, retired_by, retired_in, without_last}
use Rattle.session_laws.proofs.Answered.{by_turn}
use Rattle.session_laws.proofs.Cases.{by_beat, by_effect, ends_with, enters_at, tells_tick}
use Rattle.session_laws.proofs.Joined.{answering_debuggee, exits_program, halts_program, NoneBecome, program_of, still_holds, telling_program}
use Rattle.stepping.proofs.Determined.{one_fetched}
use Rattle.stepping.proofs.Remembering.{ticks_remember}
use Rattle.stepping.specs.Past.{IsChanged, Remembers, RemembersPast}

-- ---- the machine stays as it is, but for what no past has

-- what has retired in one machine has retired in the other, and of what is recorded no more is than was
abbrev Keeps : Debugged → Debugged → Type 0
Keeps before after = record {
  calls : after.calls ≡ before.calls;
  count : after.retired ≡ before.retired;
  past : (retired : List Retired) → RemembersPast before.past retired → RemembersPast after.past retired;
}

kept : (before after : Debugged) (retired : List Retired) → Keeps before after → Remembers before retired → Remembers after retired
kept before after retired k h = record { calls = rw k.calls h.calls; count = h.count ∙ sym k.count; past = k.past retired h.past }

same : (p : Program) → Keeps p.machine p.machine
same p = record { calls = refl; count = refl; past = λ _ h. h }

on_past : (f : Program → Program) → ((p : Program) → Keeps p.machine (f p).machine) → (program : Option Program) (retired : List Retired)
    → IsPast program retired → IsPast (on_program f program) retired
on_past f keeps program retired h = grind (arith, kept, keeps)

-- nothing has retired in a machine that was loaded
nothing_past : (p : Program) → p.machine.calls ≡ nothing_kept → p.machine.retired ≡ 0 → p.machine.past ≡ [] → IsPast (Some p) []
nothing_past p calls count past = record { calls = rw calls nothing_stands; count = sym count; past = rw past tt }

-- ---- a move

fetched_by : (word : Result ℕ MemFault) → MatchResult word (λ w. IsDecoding w (decoded word)) (λ fault. decoded word ≡ None)
fetched_by (Ok word) = (the_decoding word).is
fetched_by (Err fault) = refl

pub is_fetched : (m : Machine) → IsFetched m (decoded (word_at m.memory m.pc))
is_fetched m = fetched_by (word_at m.memory m.pc)

-- the one that retires is the one at pc
added_is : (d : Debugged) (instr : Instr) → IsFetched (machine_of d.hart d.memory) (Some instr)
    → record { instr = instr; pc = d.hart.pc } ∷ [] ≡ at_pc d
added_is d instr f =
    let m = machine_of d.hart d.memory in
    ap (at_address d.hart.pc) (one_fetched m (Some instr) (decoded (word_at m.memory m.pc)) f (is_fetched m))

-- where it goes back, it is the last that is undone
pub last_off : (left : List Retired) (last : Retired) → take (length (left ++ last ∷ []) - 1) (left ++ last ∷ []) ≡ left
last_off left last =
    let fewer : length (left ++ last ∷ []) - 1 ≡ length left = omega (arith, length-append left (last ∷ [])) in
    rw fewer (take_at left (last ∷ []) (length left) refl)

-- how many have retired says which of them
changed_by : (d : Debugged) (retired left : List Retired) → IsChanged d retired left
    → (length left ≡ length retired → left ≡ retired) × (length left ≡ length retired + 1 → left ≡ retired ++ at_pc d)
    × (length retired ≡ length left + 1 → left ≡ take (length retired - 1) retired)
changed_by d retired left (inl none) = grind arith
changed_by d retired left (inr (inl (instr, (f, is)))) =
    let more = length-append retired (record { instr = instr; pc = d.hart.pc } ∷ []) in grind (arith, is, more, added_is d instr f)
changed_by d retired left (inr (inr (last, is))) =
    grind (arith, is, length-append left (last ∷ []), last_off left last)

moved_past : (p : Program) (retired : List Retired) → p.machine.check_due ≡ false → stays (next_tick p).outcome ≡ false
    → Remembers p.machine retired → Remembers (moved p).machine (moved_on p.machine retired)
moved_past p retired due goes h = by (turns_back p.machine.goal) refl where
  grown : (left : List Retired) × (IsChanged p.machine retired left × Remembers (moved p).machine left)
  grown = ticks_remember p.machine (moved p).machine (Ok (next_tick p)) retired h (the_tick p.machine).is

  -- it remembers these, by how many it counts
  counts : (n : ℕ) → (moved p).machine.retired ≡ n → length grown.0 ≡ n
  counts n e = grown.1.1.count ∙ e

  changed : (length grown.0 ≡ length retired → grown.0 ≡ retired) × (length grown.0 ≡ length retired + 1 → grown.0 ≡ retired ++ at_pc p.machine)
      × (length retired ≡ length grown.0 + 1 → grown.0 ≡ take (length retired - 1) retired)
  changed = changed_by p.machine retired grown.0 grown.1.0

  undoes : (past : List Position) → p.machine.past ≡ past → turns_back p.machine.goal ≡ true
      → (moved p).machine.retired ≡ (undone_by past p.machine).retired
  undoes past e turns =
      let looked : (looked_at p.machine.goal (undone p.machine)).retired ≡ (undone p.machine).retired = grind arith in
      ap (λ (d : Debugged). d.retired) (back_of p.machine (moved p).machine (Ok (next_tick p)) due turns (the_tick p.machine).is).1
      ∙ looked ∙ ap (λ (l : List Position). (undone_by l p.machine).retired) e

  back : (past : List Position) → p.machine.past ≡ past → turns_back p.machine.goal ≡ true
      → Remembers (moved p).machine (without_last past retired)
  back [] e turns = subst (Remembers (moved p).machine) (changed.0 (counts p.machine.retired (undoes [] e turns) ∙ sym h.count)) grown.1.1
  back (q ∷ past) e turns =
      let known : RemembersPast (q ∷ past) retired = subst (λ (l : List Position). RemembersPast l retired) e h.past in
      let long : length retired ≡ length known.0 + 1 = ap length known.2.0 ∙ length-append known.0 (known.1 ∷ []) in
      let fewer : length grown.0 ≡ p.machine.retired - 1 = counts (p.machine.retired - 1) (undoes (q ∷ past) e turns) in
      let was = h.count in
      subst (Remembers (moved p).machine) (changed.2 (omega (arith, long, fewer, was))) grown.1.1

  by : (b : Bool) → turns_back p.machine.goal ≡ b
      → Remembers (moved p).machine (cond b (without_last p.machine.past retired) (retired ++ at_pc p.machine))
  by true turns = back p.machine.past refl turns
  by false forward =
      let more : length grown.0 ≡ p.machine.retired + 1 = counts (p.machine.retired + 1) ((move_leaves p due goes).retired forward) in
      let was = h.count in
      subst (Remembers (moved p).machine) (changed.1 (omega (arith, more, was))) grown.1.1

-- ---- a beat

-- what has retired after a beat is the past of what it leaves
Past : Session → Beat → Type 0
Past s b = (retired : List Retired) → IsPast (program_of s) retired
    → IsPast (program_of (performed histories b.acts s)) (and_next b.moved (program_of s) retired)

-- one that retires nothing, and leaves this program
leaves_past : (s : Session) (b : Beat) (p q : Program) → program_of s ≡ Some p → b.moved ≡ 0
    → program_of (performed histories b.acts s) ≡ Some q → Keeps p.machine q.machine → Past s b
unfolding Past
leaves_past s b p q is none after keeps retired h = rw (none, after) (kept p.machine q.machine retired keeps (rw is at h))

tick_past : (s : Session) (p : Program) (tick : Tick) → program_of s ≡ Some p → Past s (tells_tick s.now p tick)
tick_past s p tick is =
    leaves_past s (tells_tick s.now p tick) p (concluded tick.outcome (told p)) is refl (telling_program s.now p tick s)
    (grind arith)

retire_past : (s : Session) (p : Program) → program_of s ≡ Some p → p.machine.check_due ≡ false → stays (next_tick p).outcome ≡ false
    → Past s (makes_move s.now p)
unfolding Past
retire_past s p is due goes retired h = rw is (moved_past p retired due goes (rw is at h))

beat_past : (s : Session) (more : Bool) → Past s (beat (histories.see s) more)
unfolding Past
beat_past s more = by_beat (program_of s) (histories.see s) more (Past s) (λ _ retired h. h) (λ p is. record {
  tells = λ tick _. tick_past s p tick is;
  ends_for = λ _ _ _ retired h. h;
  stops_for = λ w _ _. leaves_past s (stops s.now p w) p (stopped w p) is refl (halts_program s.now p w [] s) (same p);
  exits_with = λ code _ _ _.
      leaves_past s (ends_with s.now p code) p (ended (Some code) p) is refl (exits_program s.now p code s) (same p);
  enters = λ _ _ _. leaves_past s (enters_at s.now p) p (entered p) is refl refl (same p);
  moves = λ _ _ due _ goes. retire_past s p is due goes;
})

-- ---- a slice

next_past : (n : ℕ) (d : Slicing Session) (e : Option SliceEnd) (retired : List Retired) → IsPast (program_of d.state) retired
    → IsPast (program_of (next_by histories n e d).state) (after_next n e d retired)
unfolding Past
next_past n d (Some e) retired h = h
next_past n d None retired h = beat_past d.state (ltb d.moved n) retired h

slice_past : (n k : ℕ) (s : Session) (retired : List Retired) → IsPast (program_of s) retired
    → IsPast (program_of (beats histories n k s).state) (retired_in n k s retired)
slice_past n zero s retired h = h
slice_past n (suc k) s retired h =
    next_past n (beats histories n k s) (beats histories n k s).ending (retired_in n k s retired) (slice_past n k s retired h)

-- ---- an answer

marked_keeps : (r : Run) (m : Mark) (p : Program) → Keeps p.machine (marked_by r m p).machine
marked_keeps r m p = grind arith

written_keeps : (address : ℕ) (bytes : List ℕ) (p : Program) → Keeps p.machine (written address bytes p).machine
written_keeps address bytes p = record {
  calls = refl;
  count = refl;
  past = λ retired h. elim (fault_at p.machine.memory 1 address (length bytes)) as
      (λ fault. RemembersPast (past_left (unless_fault fault (tt {0})) p.machine.past) retired) [ None ↦ tt | Some fault ↦ h ];
}

reloaded_past : (program : Option Program) → IsPast (on_program (λ p. first_run (restarted p)) program) []
reloaded_past program = grind (arith, nothing_past)

-- what has retired once a request was answered, by whether it loads
abbrev Then : Now → Bool → Answering → Type 0
Then now loading a = (retired : List Retired) → IsPast now.debuggee.program retired
    → IsPast a.debuggee.program (cond (loading && is_success a.outcome) [] retired)

abbrev Stays : Now → Command → Answering → Type 0
Stays now c a = loads (intent_of c) ≡ false → Then now false a

stay : (now : Now) (terms : Terms) → BySuccess (given_of now) terms (Stays now)
stay now terms = record {
  initialized = λ _ _ _ h. h;
  unreadable = λ _ _ _ h. h;
  loaded = λ _ _ _ loading. absurd (cc);
  wrong = λ _ _ _ _ _ _ h. h;
  attaches = λ _ _ h. h;
  begun = λ _ _. on_past first_run same now.debuggee.program;
  joined = λ _ _ _ h. h;
  agreed = λ _ _ _ _ h. h;
  restarts = λ loading. absurd (cc);
  terminates = λ _. on_past (ended None) same now.debuggee.program;
  leaves = λ arguments _. on_past (λ p. departed (is_to_end terms arguments) (is_to_stand terms arguments) (left p))
      (λ p. grind arith) now.debuggee.program;
  pauses = λ _ _. on_past (marked mark.Pause) (λ p. marked_keeps p.run mark.Pause p) now.debuggee.program;
  stepped = λ _ _ g _. on_past (resumed g) same now.debuggee.program;
  refused = λ _ _ _ _ _ _ h. h;
  sets_none = λ _ _ _ _ _ _ _ _ _ h. h;
  sets_list = λ c _ _ _ list _ _ _ _ _. on_past (with_list c list) (λ p. grind arith) now.debuggee.program;
  shows = λ _ _ _ _ _ _ _ _ _ _ h. h;
  sets_register = λ _ _ setting _ _ _ _.
      on_past (with_hart setting.hart) (λ p. record { calls = refl; count = refl; past = λ _ _. tt }) now.debuggee.program;
  writes = λ arguments _ writing _ _ _ _.
      on_past (written writing.address (take writing.count arguments.bytes))
      (written_keeps writing.address (take writing.count arguments.bytes)) now.debuggee.program;
}

launched : (now : Now) (terms : Terms) (arguments : LaunchArguments) (text : List ℕ) (error : Option AsmError)
    → Then now true (assembles (given_of now) terms arguments text error)
launched now terms arguments text None retired h =
    nothing_past (just_loaded (assembled text) arguments.program arguments.stop_on_entry now.size) refl refl refl
launched now terms arguments text (Some error) retired h = h

success_past : (now : Now) (terms : Terms) (file : Option (List ℕ)) (c : Command) → Has (given_of now) c
    → Then now (loads (intent_of c)) (success_of (given_of now) terms file c)
success_past now terms None (command.Launch arguments) there = λ _ h. h
success_past now terms (Some text) (command.Launch arguments) there = launched now terms arguments text (error_of text now.size)
success_past now terms file command.Restart there = λ _ _. reloaded_past now.debuggee.program
success_past now terms file c there = by_success (given_of now) terms (Stays now) (stay now terms) file c there refl

answer_past : (now : Now) (terms : Terms) (file : Option (List ℕ)) (p : Pending)
    → Then now (asks_to_load p.ask) (answer_to now terms file p)
answer_past now terms file p =
    of_answer (λ ask answer. Then now (asks_to_load ask) answer) now terms file p.ask p.fate
    (λ refusal _ retired h. subst (λ (b : Bool). IsPast now.debuggee.program (cond b [] retired)) (sym (and_right (asks_to_load p.ask) false refl)) h)
    (λ r taken meets. success_past now terms file r.command meets.loaded)

-- ---- an event

turn_past : (file : Option (List ℕ)) (s : Session) (retired : List Retired) → IsPast (program_of s) retired
    → IsPast (program_of (Effect s (Turn file))) (and_retired s (Turn file) retired)
unfolding Past
turn_past file s retired h =
    by_turn (histories.see s) file (λ a o. IsPast (program_of (performed histories o.acts s)) (after_answer a retired)) (record {
      refused = h;
      tells = λ p tick is _. tick_past s p tick is retired h;
      nothing = λ _. h;
      answers = λ l p. let a = answer_to s.now l.terms file p in
          subst (λ (d : Debuggee). IsPast d.program (cond (asks_to_load p.ask && is_success a.outcome) [] retired))
          (sym (answering_debuggee a s)) (answer_past s.now l.terms file p retired h);
    }) s.now.link

-- an event that is no turn and no slice
abbrev Unless : Session → List Retired → Event → Session → Type 0
Unless s retired e t = and_retired s e retired ≡ retired → IsPast (program_of t) retired

other_past : (e : Event) (s : Session) (retired : List Retired) → IsPast (program_of s) retired → Unless s retired e (Effect s e)
unfolding NoneBecome
other_past e s retired h = by_effect s (Unless s retired) (record {
  refuses = λ _ _ _. h;
  opens = λ _. still_holds (λ program. IsPast program retired) (Open ∷ []) s tt h;
  accepts = λ piece _. still_holds (λ program. IsPast program retired) (Accept piece ∷ []) s tt h;
  turns = λ file is. subst (IsPast (program_of (Effect s (Turn file)))) is (turn_past file s retired h);
  slices = λ _ _. h;
  holds = λ _. on_past (marked mark.Hold) (λ p. grind arith) (program_of s) retired h;
  takes = λ _ _. h;
  drops = λ _ _ _. on_past left same (program_of s) retired h;
}) (λ n is. subst (IsPast (program_of (sliced histories n s).state)) is (slice_past n (enough n) s retired h)) e

event_past : (e : Event) (s : Session) (retired : List Retired) → IsPast (program_of s) retired
    → IsPast (program_of (Effect s e)) (and_retired s e retired)
event_past (Turn file) s retired h = turn_past file s retired h
event_past (Slice n) s retired h = slice_past n (enough n) s retired h
event_past e s retired h = other_past e s retired h refl

-- ---- all of them

each_past : (x : Happened) (s : Session) (retired : List Retired) → IsPast (program_of s) retired
    → IsPast (program_of (leaves s x)) (retired_by s x retired)
each_past (Whole e) s retired h = event_past e s retired h
each_past (Cut n count) s retired h = slice_past n count s retired h

all_past : (happened : List Happened) (s : Session) (retired : List Retired) → IsPast (program_of s) retired
    → IsPast (program_of (led_to happened s)) (retired_after happened s retired)
all_past [] s retired h = h
all_past (x ∷ happened) s retired h = all_past happened (leaves s x) (retired_by s x retired) (each_past x s retired h)

first_past : (program : Option (List ℕ × List ℕ)) (size : ℕ) → IsPast (first_program program size) []
first_past program size = grind (arith, nothing_past)

pub past_is_remembered : PastIsRemembered
past_is_remembered from events = all_past events (start from) [] (first_past from.program from.size)

pub frames_are_of_the_past : FramesAreOfThePast
frames_are_of_the_past from events p is =
    let h = rw is at (past_is_remembered from events) in ap (λ (calls : List ℕ). p.machine.hart.pc ∷ calls) h.calls.calls
