-- What is kept by each event, where answers are looked at whole.
use Rattle.session_laws.proofs.Common.{[], accepting, Act, All-take, AnEvent as Event, answer_to, Answering, answering, ap, AreWords, arith, asks_of, assembled, at_next_stop, beat, Become, becomes, Beginning, Bool, by_success, BySuccess, CameTo, Close, Command, concludes, Debuggee, departed, departed_orderly, Effect, ended, ended_orderly, enough, entered_orderly, eqb, Event as IsEvent, exit_events, exit_is_proper, exits, false, first_address, first_program, first_run, first_run_orderly, given_of, GivesBytes, halts, HangUp, Happened, Hart, hart_orderly, Has, has_none, has_room, HasImage, HasSignedCode, histories, ids_are_words, if_keeps, IfOk, IfSome, is_active, is_ended, is_running, is_to_end, is_to_stand, IsByte, IsProperEvent, IsWord, left, left_orderly, Limits, Link, List, listed_orderly, loaded_orderly, log_event, log_is_proper, logged, ltb, ltb-true, map, marked, marked_orderly, MatchOption, Message, moved_orderly, name_answer, named_are_words, nat_tests, next_fits, next_of, None, Now, Numbers, of_answer, Ok, on_program, Open, Option, Orderly, OrderlyIn, OrderlyOf, outcome_at, output_events, output_is_proper, owed_fits, Pending, performed, performed_append, performed_on, Program, Reached, reached, read_on, referred, refl, Refusal, Registers, replied_on, Response as IsResponse, response_to, restarted, restarted_orderly, Result, resumed, resumed_orderly, Run, run_events, run_of, said_on, saying, SaysItsRun, seen_in, Session, set_in, set_variable, Setting, setting_of, SetVariableArguments, Slice, Some, start, stop_event, stop_is_proper, stopped, stopped_orderly, subst, sym, Take, take, Target, target_of, Tell, telling, tells, Terms, Tick, Told, told, told_orderly, true, value_of, Why, with_hart, with_list, with_orderly, with_program, with_targets, written, written_orderly, ℕ, ℤ, ◌+◌, ◌<◌, ◌^◌, ◌∙◌, ◌∷◌, ◌≡◌, ◌≤◌}
use Rattle.assembler.proofs.Narrow.{assembled_is_narrow}
use Rattle.debuggee.specs.declared.run.Mark.TheVariants as mark
use Rattle.debuggee.specs.declared.run.Run.TheVariants as run
use Rattle.range_laws.proofs.Images.{assembled_is_in_range}
use Rattle.range_laws.proofs.Settings.{registers_stay_in_range, texts_give_words}
use Rattle.range_laws.specs.Debugging.{HartInRange}
use Rattle.rv32i.specs.Laws.{IsSignedWord}
use Rattle.session_laws.proofs.Asked.{AreRead, asks_are_read, IsRead, asks_that_wait, joined_are}
use Rattle.session_laws.proofs.ByForms.{accepts_by, after_answer, opens_by, on, on_with, said_by, with_change}
use Rattle.session_laws.proofs.Cases.{by_beat, by_beats, by_event, each_turn, EachTurn}

-- numbers of references that are among those that may be issued
abbrev pub AreGiven : Numbers → Type 0
AreGiven numbers = (next_of numbers ≤ numbers.last + 1) × (numbers.last ≤ 2147483647)

-- what an answer can count on, beside the program: memory ends at an address, and references have numbers of 32 bits
pub record Bounds (limits : Limits) (size : ℕ) (good : Numbers) : Type 0 where
  pub references : limits.last_ref ≤ 2147483647
  pub memory : first_address + size < 2 ^ 32
  pub numbers : AreGiven good

abbrev pub BoundsIn : Now → Type 0
BoundsIn now = Bounds now.limits now.size now.numbers

-- it is kept where an event is told, which is proper and says what is so of the program's run
abbrev pub KeptByTelling : (Session → Type 0) → Type 0
KeptByTelling P = (l : Link) (event : Told) (s : Session) → IsProperEvent event → SaysItsRun (IsEvent event) s.now.debuggee
    → l.seq < s.now.limits.last_seq → P (on (Some l) s) → P (saying l (IsEvent event) s.now.arrivals.pending (on (Some l) s))

-- What is debugged is orderly in each state, and each event that is told is proper: what is kept may stand on both.
pub record KeptByEvents (P : Session → Type 0) : Type 0 where
  pub opens : (s : Session) → P (on None s) → P (performed_on Open (on None s))
  pub closes : (s : Session) → P s → P (performed_on Close s)
  pub accepts : (l : Link) (piece : List ℕ) (s : Session) → l.is_closing ≡ false → P (on (Some l) s) → P (accepting l piece (on (Some l) s))
  pub becomes : (d : Debuggee) (s : Session) → P s → P (performed_on (Become d) s)
  pub tells : KeptByTelling P
  pub answers : (l : Link) (p : Pending) (rest : List Pending) (file : Option (List ℕ)) (s : Session) → let t =
      on_with (Some l) (p ∷ rest) s in OrderlyIn s.now.debuggee → BoundsIn s.now → AreRead (asks_that_wait (p ∷ rest)) → P t → P
      (performed histories (answering (answer_to t.now l.terms file p)) t)
  pub takes : (n : ℕ) (s : Session) → P s → P (performed_on (Take n) s)

-- an event that may be told of that program
pub Tellable : Debuggee → Told → Type 0
Tellable d event = IsProperEvent event × SaysItsRun (IsEvent event) d

abbrev AllTellable : Debuggee → List Told → Type 0
AllTellable d [] = Unit {0}
AllTellable d (e ∷ es) = Tellable d e × AllTellable d es

logs_tellable : (d : Debuggee) (texts : List (List ℕ)) → AllTellable d (map log_event texts)
unfolding Tellable
logs_tellable d [] = tt
logs_tellable d (text ∷ texts) = ((log_is_proper text, tt), logs_tellable d texts)

output_tellable : (d : Debuggee) (printed : Option ℤ) (texts : List (List ℕ)) → AllTellable d (output_events printed texts)
unfolding Tellable
output_tellable d printed texts = grind (arith, logs_tellable d texts, output_is_proper)

-- ---- an answer leaves an orderly program, and numbers that may be issued

ended_given : (numbers : Numbers) → AreGiven numbers → AreGiven (at_next_stop numbers)
ended_given numbers g = (let few = g.0 in omega (arith, few), g.1)

issued_given : (numbers : Numbers) (targets : List Target) → AreGiven numbers → has_room numbers targets ≡ true
    → AreGiven (with_targets numbers targets)
issued_given numbers targets g room =
    (let few : next_of (with_targets numbers targets) ≤ numbers.last + 1 = grind (arith, nat_tests, room) in few, g.1)

-- and what it tells is so of that program
abbrev Leaves : Now → Answering → Type 0
Leaves now a = OrderlyIn a.debuggee × AreGiven (referred a.references now.numbers) × AllTellable a.debuggee a.events

-- what is made of the program leaves an orderly one
makes : (now : Now) (f : Program → Program) → ((p : Program) → Orderly p → Orderly (f p)) → OrderlyIn now.debuggee
    → OrderlyIn (with_program f now.debuggee)
makes now f keeps h = with_orderly f keeps now.debuggee.program h

-- a hart in which a register was set is in range
setting_fits : (hart : Hart) (number : Result ℕ Refusal) (value : Option ℕ) → HartInRange hart → IfSome value IsWord
    → IfOk (setting_of hart number value) (λ setting. HartInRange setting.hart)
setting_fits hart number value h w = grind (arith, registers_stay_in_range)

set_fits : (arguments : SetVariableArguments) (p : Program) (found : Result Target Refusal) → Orderly p
    → IfOk (set_in arguments p.machine found) (λ setting. HartInRange setting.hart)
set_fits arguments p (Ok Registers) h =
    let m = h.range.machine.machine in
    setting_fits p.machine.hart (name_answer arguments.name) (value_of arguments.value) (record { pc = m.pc; x = m.x })
    (texts_give_words arguments.value)
set_fits arguments p _ h = tt

-- a program runs so, if there is one, once this is made of it
pub runs_as : (P : Run → Type 0) (f : Program → Program) (program : Option Program) → has_none (run_of program) ≡ false
    → ((p : Program) → P (f p).run) → MatchOption (on_program f program) ⊥ (λ p. P p.run)
runs_as P f program there h = grind (arith, h)

-- how a program runs that was joined
run_is_told : (program : Option Program) (last_break : ℕ)
    → AllTellable (record { program = program; last_break = last_break }) (run_events (run_of program))
unfolding Tellable
run_is_told None last_break = tt
run_is_told (Some p) last_break = by p.run refl where
  by : (r : Run) → p.run ≡ r → AllTellable (record { program = Some p; last_break = last_break }) (run_events (Some r))
  by run.Running e = ((refl, ap is_running e), tt)
  by (run.Stopped why) e = ((stop_is_proper why [] tt, rw e (refl, refl)), tt)
  by (run.Ended code) e = tt

-- the answer to a request that has the program that it asks for, and whose bytes are bytes
abbrev LeavesTaken : Now → Command → Answering → Type 0
LeavesTaken now c a = Has (given_of now) c → GivesBytes c → Leaves now a

module _ (now : Now) (terms : Terms) (b : BoundsIn now) (h : OrderlyIn now.debuggee) where
  -- it changes nothing, or makes something of the program
  same : OrderlyIn now.debuggee × AreGiven now.numbers × Unit {0}
  same = (h, b.numbers, tt)

  makes_so : (f : Program → Program) → ((p : Program) → Orderly p → Orderly (f p))
      → OrderlyIn (with_program f now.debuggee) × AreGiven now.numbers × Unit {0}
  makes_so f keeps = (makes now f keeps h, b.numbers, tt)

  ends_stop : (f : Program → Program) → ((p : Program) → Orderly p → Orderly (f p))
      → OrderlyIn (with_program f now.debuggee) × AreGiven (at_next_stop now.numbers) × Unit {0}
  ends_stop f keeps = (makes now f keeps h, ended_given now.numbers b.numbers, tt)

  register_set : (arguments : SetVariableArguments) (p : Program) (setting : Setting) → now.debuggee.program ≡ Some p
      → set_variable arguments p.machine now.numbers ≡ Ok setting → HartInRange setting.hart
  register_set arguments p setting is e =
      rw e at (set_fits arguments p (target_of now.numbers arguments.variables_reference) (subst OrderlyOf is h))

  successes_orderly : BySuccess (given_of now) terms (LeavesTaken now)
  unfolding Tellable
  successes_orderly = record {
    initialized = λ _ _ _. same;
    unreadable = λ _ _ _. same;
    loaded = λ arguments text e _ _. (
      loaded_orderly (assembled text) arguments.program arguments.stop_on_entry now.size (assembled_is_narrow text now.size e)
          (assembled_is_in_range text now.size e) b.memory,
      b.numbers,
      ((refl, tt), tt),
    );
    wrong = λ _ _ _ _ _ _. same;
    attaches = λ _ _. (h, b.numbers, ((refl, tt), tt));
    begun = λ _ _ _. makes_so first_run first_run_orderly;
    joined = λ _ _ _. (h, b.numbers, run_is_told now.debuggee.program now.debuggee.last_break);
    agreed = λ _ _ _ _. same;
    restarts = λ _ _. ends_stop (λ p. first_run (restarted p)) (λ p o. first_run_orderly (restarted p) (restarted_orderly p o));
    terminates = λ there _. (
      makes now (ended None) (ended_orderly None) h,
      b.numbers,
      ((refl, runs_as (λ run. is_ended run ≡ true) (ended None) now.debuggee.program there (λ _. refl)), tt),
    );
    leaves = λ arguments _ _. ends_stop (λ p. departed (is_to_end terms arguments) (is_to_stand terms arguments) (left p))
        (λ p o. departed_orderly (is_to_end terms arguments) (is_to_stand terms arguments) (left p) (left_orderly p o));
    pauses = λ _ _ _. makes_so (marked mark.Pause) (marked_orderly mark.Pause);
    stepped = λ _ _ g _ _. ends_stop (resumed g) (resumed_orderly g);
    refused = λ _ _ _ _ _ _. same;
    sets_none = λ _ _ _ _ _ _ _ _ _. same;
    sets_list = λ c _ p _ list _ _ f within _ _. (
      with_orderly (with_list c list)
          (listed_orderly c list
          (ids_are_words p (given_of now) terms c list f (let few = b.references in omega (arith, within, few)))) now.debuggee.program h,
      b.numbers,
      tt,
    );
    shows = λ c _ p _ _ _ _ room _ _. (h, issued_given now.numbers (seen_in p (given_of now) terms c).targets b.numbers room, tt);
    sets_register =
        λ arguments p setting is e _ _ _. makes_so (with_hart setting.hart)
        (λ q o. hart_orderly setting.hart q (register_set arguments p setting is e) o);
    writes = λ arguments _ writing _ _ _ _ gives. makes_so (written writing.address (take writing.count arguments.bytes))
        (λ q o. written_orderly writing.address (take writing.count arguments.bytes) q
        (All-take IsByte writing.count arguments.bytes gives) o);
  }

pub answer_orderly : (now : Now) (terms : Terms) (file : Option (List ℕ)) (p : Pending) → IsRead p.ask → BoundsIn now → OrderlyIn now.debuggee
    → Leaves now (answer_to now terms file p)
answer_orderly now terms file p read b h =
    of_answer (λ ask answer. IsRead ask → Leaves now answer) now terms file p.ask p.fate (λ refusal _ _. (h, b.numbers, tt))
    (λ r taken meets is. by_success (given_of now) terms (LeavesTaken now) (successes_orderly now terms b h) file r.command meets.loaded
    meets.loaded is.1.1) read

-- ---- what follows an answer

-- what is told changes no program
pub said_debuggee : (l : Option Link) (m : Message) (rest : List Pending) (s : Session)
    → (said_on l m rest (on l s)).now.debuggee ≡ s.now.debuggee
said_debuggee l m rest s = said_by (λ x. x.now.debuggee ≡ s.now.debuggee) l m rest s (λ _ _ e. e) refl

-- the connection, and the session, once an answer's change is made, and before it is queued
abbrev pub agreed_with : Link → Answering → Link
agreed_with l a = record l { terms = a.terms }

abbrev pub changed : Link → List Pending → Session → Answering → Session
changed l pending s a = on_with (Some (agreed_with l a)) pending (with_change a s)

-- what is kept where an event is told is kept where some are
tells_all : (P : Session → Type 0) → KeptByTelling P → (d : Debuggee) (events : List Told) (s : Session) → s.now.debuggee ≡ d
    → AllTellable d events → P s → P (performed histories (map Tell events) s)
unfolding Tellable
tells_all P tells d [] s is told h = h
tells_all P tells d (e ∷ es) s is told h =
    tells_all P tells d es (performed_on (Tell e) s) (said_debuggee s.now.link (IsEvent e) s.now.arrivals.pending s ∙ is) told.1
    (said_by P s.now.link (IsEvent e) s.now.arrivals.pending s
    (λ l few x. tells l e s told.0.0 (rw is told.0.1) few x) h)

-- What is kept where an event is told and where the connection takes nothing more is so after an answer, if it is so once that is queued.
pub once_answered : (P : Session → Type 0) → KeptByTelling P
    → ((l : Link) (s : Session) → P (on (Some l) s) → P (performed_on HangUp (on (Some l) s)))
    → (l : Link) (p : Pending) (rest : List Pending) (s : Session) (a : Answering) → AllTellable a.debuggee a.events
    → (l.seq < s.now.limits.last_seq
    → P (saying (agreed_with l a) (IsResponse (response_to p.ask a.outcome)) rest (changed l (p ∷ rest) s a)))
    → P (changed l (p ∷ rest) s a) → P (performed histories (answering a) (on_with (Some l) (p ∷ rest) s))
once_answered P tells_one hangs_up l p rest s a told said unsaid =
    let t : Session = changed l (p ∷ rest) s a in
    let replied : Session = replied_on (p ∷ rest) a.outcome t in
    after_answer P hangs_up a.events a.closes replied
    (tells_all P tells_one a.debuggee a.events replied (said_debuggee t.now.link (IsResponse (response_to p.ask a.outcome)) rest t) told
    (if_keeps P (ltb l.seq s.now.limits.last_seq) _ _ (λ e. said (ltb-true l.seq s.now.limits.last_seq e)) (λ _. unsaid)))

-- ---- what is orderly in each state

pub record StaysOrderly (s : Session) : Type 0 where
  pub program : OrderlyIn s.now.debuggee
  pub bounds : BoundsIn s.now
  pub asks : AreRead (asks_that_wait s.now.arrivals.pending)

-- the last number drops those that wait
said_stays : (l : Link) (m : Message) (rest : List Pending) (s : Session) → AreRead (asks_that_wait rest) → StaysOrderly (on (Some l) s)
    → StaysOrderly (saying l m rest (on (Some l) s))
said_stays l m rest s r h =
    assumption (if_keeps (λ (x : List Pending). AreRead (asks_that_wait x)) (eqb (l.seq + 1) s.now.limits.last_seq) [] rest
    (λ _. tt) (λ _. r))

answer_stays : (l : Link) (p : Pending) (rest : List Pending) (s : Session) (a : Answering) → let t = on_with (Some l) (p ∷ rest) s in
    Leaves t.now a → StaysOrderly t → StaysOrderly (performed histories (answering a) t)
answer_stays l p rest s a leaves h =
    let b = h.bounds in
    let after : StaysOrderly (changed l (p ∷ rest) s a) = record {
      program = leaves.0;
      bounds = record { references = b.references; memory = b.memory; numbers = leaves.1 };
      asks = h.asks;
    } in
    once_answered StaysOrderly (λ k e x _ _ _ y. said_stays k (IsEvent e) x.now.arrivals.pending x y.asks y)
    (λ k x y. record { program = y.program; bounds = y.bounds; asks = y.asks }) l p rest s a leaves.2
    (λ _. said_stays (agreed_with l a) (IsResponse (response_to p.ask a.outcome)) rest (changed l (p ∷ rest) s a) h.asks.1 after) after

-- limits that are right
begins_orderly : (given : Option (List ℕ × List ℕ)) (size : ℕ) → first_address + size < 2 ^ 32 → HasImage given size
    → OrderlyOf (first_program given size)
begins_orderly None size ends image = tt
begins_orderly (Some g) size ends image =
    loaded_orderly (assembled g.1) g.0 false size (assembled_is_narrow g.1 size image) (assembled_is_in_range g.1 size image) ends

-- it is so at the start
pub begins_so : (from : Beginning) → StaysOrderly (start from)
begins_so from =
    let ends : first_address + from.size < 2 ^ 32 = grind (arith, nat_tests, from.memory) in
    let few : from.limits.last_ref ≤ 2147483647 = grind (arith, nat_tests, from.numbers) in
    let none : 1 + 0 ≤ from.limits.last_ref + 1 = omega arith in
    record {
      program = begins_orderly from.program from.size ends from.image;
      bounds = record { references = few; memory = ends; numbers = (none, few) };
      asks = tt;
    }

module _ (P : Session → Type 0) (k : KeptByEvents P) where
  abbrev pub Both : Session → Type 0
  Both s = P s × StaysOrderly s

  became : (d : Debuggee) (s : Session) → OrderlyIn d → Both s → Both (performed_on (Become d) s)
  became d s o h = (k.becomes d s h.0, record { program = o; bounds = h.1.bounds; asks = h.1.asks })

  -- the program becomes this, and then something is told of it
  becomes_keeps : (now : Now) (q : Program) (events : List Told) (s : Session) → Orderly q
      → AllTellable (record now.debuggee { program = Some q }) events → Both s
      → Both (performed histories (becomes now q ∷ tells now events) s)
  becomes_keeps now q events s o told h =
      let t = performed_on (becomes now q) s in
      let after : Both t = became (record now.debuggee { program = Some q }) s o h in
      if_keeps (λ (acts : List Act). Both (performed histories acts t)) (is_active now.link) _ []
      (λ _. tells_all Both
      (λ l e x proper so few y. (k.tells l e x proper so few y.0, said_stays l (IsEvent e) x.now.arrivals.pending x y.1.asks y.1))
      (record now.debuggee { program = Some q }) events t refl told after) (λ _. after)

  halts_keep : (now : Now) (p : Program) (reason : Why) (ids : List ℕ) (s : Session) → Orderly p → AreWords ids → Both s
      → Both (performed histories (halts now p reason ids) s)
  unfolding Tellable
  halts_keep now p reason ids s o w h =
      becomes_keeps now (stopped reason p) (stop_event reason ids ∷ []) s (stopped_orderly reason p o)
      ((stop_is_proper reason ids w, (refl, refl)), tt) h

  exits_keep : (now : Now) (p : Program) (code : ℤ) (s : Session) → Orderly p → IsSignedWord code → Both s
      → Both (performed histories (exits now p code) s)
  unfolding Tellable
  exits_keep now p code s o w h =
      becomes_keeps now (ended (Some code) p) (exit_events code) s (ended_orderly (Some code) p o)
      ((exit_is_proper code w, refl), ((refl, refl), tt)) h

  concludes_keep : (now : Now) (p : Program) (outcome : CameTo) (ids : List ℕ) (s : Session) → Orderly p → HasSignedCode outcome
      → AreWords ids → Both s → Both (performed histories (concludes now p outcome ids) s)
  concludes_keep now p outcome ids s o c w h = grind (arith, halts_keep, exits_keep)

  telling_keeps : (p : Program) (tick : Tick) (s : Session) → Orderly p → p.owed ≡ Some tick → Both s
      → Both (performed histories (telling s.now p tick) s)
  telling_keeps p tick s o owes h =
      let output = output_events tick.printed (logged p.machine.lists) in
      let now = record s.now.debuggee { program = Some (told p) } in
      subst Both (sym (performed_append (becomes s.now (told p) ∷ tells s.now output)
      (concludes s.now (told p) tick.outcome p.machine.lists.ids) s))
      (concludes_keep s.now (told p) tick.outcome p.machine.lists.ids _ (told_orderly p o) (owed_fits p tick owes o) (named_are_words p o)
      (becomes_keeps s.now (told p) output s (told_orderly p o) (output_tellable now tick.printed (logged p.machine.lists)) h))

  turn_keeps : (file : Option (List ℕ)) → EachTurn file (λ s acts. Both s → Both (performed histories acts s))
  turn_keeps file = record {
    nothing = λ s h. h;
    tells = λ l p tick s is owes h. telling_keeps p tick (on (Some l) s) (subst OrderlyOf is h.1.program) owes h;
    answers = λ l p rest s _ h. let t = on_with (Some l) (p ∷ rest) s in (
      k.answers l p rest file s h.1.program h.1.bounds h.1.asks h.0,
      answer_stays l p rest s (answer_to t.now l.terms file p)
          (answer_orderly t.now l.terms file p h.1.asks.0 h.1.bounds h.1.program) h.1,
    );
  }

  pub outcome_keeps : (l : Option Link) (e : Event) (s : Session) → Both (on l s)
      → Both (performed histories (outcome_at (histories.see (on l s)) l e).acts (on l s))
  outcome_keeps l e s h = by_event (histories.see (on l s)) l (λ _ o. Both (performed histories o.acts (on l s))) (record {
    refuses = λ _ _. h;
    opens = opens_by Both l s (λ x. (k.opens s x.0, record { program = x.1.program; bounds = x.1.bounds; asks = tt })) h;
    accepts = λ piece. accepts_by Both l piece s
        (λ m e x. (
          k.accepts m piece s e x.0,
          assumption (joined_are IsRead (asks_of (read_on s.now piece).bodies) s.now.arrivals x.1.asks
              (asks_are_read (read_on s.now piece).bodies)),
        )) h;
    turns = λ file. each_turn file (λ s acts. Both s → Both (performed histories acts s)) (turn_keeps file) l s h;
    slices = λ _. h;
    holds = became _ (on l s) (with_orderly (marked mark.Hold) (marked_orderly mark.Hold) s.now.debuggee.program h.1.program) h;
    takes = λ n. (k.takes n (on l s) h.0, record { program = h.1.program; bounds = h.1.bounds; asks = h.1.asks });
    drops = λ _ _. let b = h.1.bounds in (
      k.closes _ (k.becomes _ (on l s) h.0),
      record {
        program = with_orderly left left_orderly s.now.debuggee.program h.1.program;
        bounds = record { references = b.references; memory = b.memory; numbers = ended_given s.now.numbers b.numbers };
        asks = tt;
      },
    );
  }) e

  pub beat_keeps : (s : Session) (more : Bool) → Both s → Both (performed histories (beat (histories.see s) more).acts s)
  beat_keeps s more h = by_beat s.now.debuggee.program (histories.see s) more (λ b. Both (performed histories b.acts s)) (λ _. h)
      (λ p is. let o : Orderly p = subst OrderlyOf is h.1.program in record {
        tells = λ tick owes. telling_keeps p tick s o owes h;
        ends_for = λ _ _ _. h;
        stops_for = λ reason _ _. halts_keep s.now p reason [] s o tt h;
        exits_with = λ code _ _ e. exits_keep s.now p code s o (subst HasSignedCode e (next_fits p)) h;
        enters = λ _ _ _. became _ s (entered_orderly p o) h;
        moves = λ _ _ _ _ _. became _ s (moved_orderly p o) h;
      })

  event_keeps : (e : Event) (s : Session) → Both s → Both (Effect s e)
  event_keeps (Slice n) s h = by_beats Both beat_keeps n (enough n) s h
  event_keeps e s h = outcome_keeps s.now.link e s h

  pub both_reached : (from : Beginning) → P (start from) → (happened : List Happened) → Both (Reached from happened)
  both_reached from h happened = reached Both event_keeps (by_beats Both beat_keeps) from (h, begins_so from) happened

  pub reached_by_events : (from : Beginning) → P (start from) → (happened : List Happened) → P (Reached from happened)
  reached_by_events from h happened = (both_reached from h happened).0
