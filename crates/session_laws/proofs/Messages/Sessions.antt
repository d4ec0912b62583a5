-- Each message of each connection can be read, whatever happens.
--
-- With it is kept that the program that is debugged is short, and so are the requests that wait.
use Rattle.session_laws.proofs.Messages.Common.{[], Accept, Act, Agree, agreed_body, All, All-nil, All-push, AllByRecursion, AnEvent as Event, answer_on, answer_to, Answering, are_plain, arith, Ask, asks_of, Bad, beat, beat_of, beats, Become, Beginning, Bool, by_success, BySuccess, CameTo, Close, closing, Command, concludes, departed, each_life, Effect, ended, enough, eqb, Event as IsEvent, exit_events, exits, false, first_run, given_of, halts, HangUp, Happened, HasPath, HasTexts, histories, HoldsWords, if_keeps, IfSome, is_active, is_to_end, is_to_stand, leb, left, length, Life, life_of, List, log_event, logged, map, marked, Message, most_bytes, name_asked, name_of, no_life, None, Now, of_answer, on_program, Open, Option, OrderlyIn, OrderlyOf, Outcome as Answered, outcome_at, output_events, Pending, performed, performed_on, Program, Reached, reached, read_on, Refer, refl, replied_on, Reply, Request, Response as IsResponse, response_to, restarted, resumed, Run, run_events, run_of, Said, said_next, said_on, Seen, Session, Setting, Slice, Some, start, step_body, stop_event, subst, Take, Tell, telling, tells, Terms, Tick, Told, told, true, view_of, Why, with_hart, with_list, Writing, written, ℕ, ℤ, ◌&&◌, ◌+◌, ◌<◌, ◌∷◌, ◌≡◌, ◌≤◌}
use Rattle.std.specs.Prelude.{take}
use Rattle.std.proofs.lemmas.Result.{IfOk-at_ok}
use Rattle.debuggee.specs.declared.run.Mark.TheVariants as mark
use Rattle.debuggee.specs.declared.run.Run.TheVariants as run
use Rattle.handlers.specs.Given.{Given}
use Rattle.protocol.specs.declared.command.Command.TheVariants as command
use Rattle.session_laws.proofs.Asked.{all_append, asks_that_wait, joined_are}
use Rattle.session_laws.proofs.ByForms.{accepts_by, agrees_by, hangs_by, on, on_with, opens_by, refers_by, said_by}
use Rattle.session_laws.proofs.Cases.{by_beats, by_event, by_program, each_turn, EachTurn}
use Rattle.session_laws.proofs.Proper.{holds_words}
use Rattle.session_laws.proofs.Turning.{KeptByEvents, StaysOrderly, beat_keeps, begins_so, outcome_keeps}
use Rattle.session_laws.proofs.Messages.Bodies.{IsFine, IsReadable, breaks_are_readable, looks_are_readable, settings_are_readable, writings_are_readable, written_few}
use Rattle.session_laws.proofs.Messages.Events.{IsReadableEvent, IsReadableOutcome, error_readable, log_readable, number_readable, stop_readable}
use Rattle.session_laws.proofs.Messages.Programs.{IsShort, IsShortText, entered_short, first_short, left_short, listed_short, loaded_short, logs_are_short, marked_short, moved_short, restarted_short, told_short}
use Rattle.session_laws.proofs.Messages.Requests.{IsShortAsk, IsShortRequest, asks_are_short}
use Rattle.session_laws.proofs.Messages.Words.{spelled, utf8_of}

-- a message that can be read, and has fewer bytes than a mirror reads of one
abbrev pub IsReadableMessage : Message → Type 0
IsReadableMessage m = HasTexts m × (most_bytes m < 4294967295)

abbrev AllReadable : Life → Type 0
AllReadable life = All (λ (m : Said). IsReadableMessage m.message) life.said

abbrev OfProgram : Option Program → Type 0
OfProgram program = IfSome program IsShort

abbrev OfEvents : List Told → Type 0
OfEvents events = AllByRecursion IsReadableEvent events

abbrev OfAnswer : Answering → Type 0
OfAnswer a = OfProgram a.debuggee.program × IsReadableOutcome a.outcome × OfEvents a.events

-- an act whose answer or event can be read, and whose program is short
abbrev OfAct : Act → Type 0
OfAct (Become d) = OfProgram d.program
OfAct (Reply outcome) = IsReadableOutcome outcome
OfAct (Tell e) = IsReadableEvent e
OfAct _ = Unit {0}

abbrev OfActs : List Act → Type 0
OfActs = AllByRecursion OfAct

-- ---- one answer

on_all : (f : Program → Program) → ((p : Program) → IsShort p → IsShort (f p)) → (program : Option Program) → OfProgram program
    → OfProgram (on_program f program)
on_all f keeps program g = grind (arith, keeps)

run_is_told : (r : Option Run) → OfEvents (run_events r)
run_is_told None = tt
run_is_told (Some run.Running) = ((tt, omega arith), tt)
run_is_told (Some (run.Stopped reason)) = (stop_readable reason [] (omega arith), tt)
run_is_told (Some (run.Ended code)) = tt

agreed_right : (given : Given) (c : Command) → IsReadable (agreed_body given c)
agreed_right given command.Threads = (tt, omega arith)
agreed_right given other = (tt, omega arith)

step_right : (c : Command) → IsReadable (step_body c)
step_right c = grind arith

-- a short request has such an answer
abbrev OfTaken : Command → Answering → Type 0
OfTaken c a = IsShortRequest c → OfAnswer a

module _ (now : Now) (terms : Terms) (g : OfProgram now.debuggee.program) (o : OrderlyIn now.debuggee) where
  makes : (f : Program → Program) → ((p : Program) → IsShort p → IsShort (f p)) → OfProgram (on_program f now.debuggee.program)
  makes f keeps = on_all f keeps now.debuggee.program g

  sets : (c : Command) (p : Program) → IsShortRequest c → IsFine (answer_on p (given_of now) terms c)
  sets c p asked = breaks_are_readable c p.image.lines p.machine.size (view_of terms p) (now.debuggee.last_break + 1) asked

  successes : BySuccess (given_of now) terms OfTaken
  successes = record {
    initialized = λ _ _. (g, (tt, omega arith), tt);
    unreadable = λ _ _. (g, (tt, omega arith), tt);
    loaded = λ arguments text e asked.
        (loaded_short arguments.program text arguments.stop_on_entry now.size e asked, (tt, omega arith), ((tt, omega arith), tt));
    wrong = λ _ text error e _. (g, error_readable error, tt);
    attaches = λ _. (g, (tt, omega arith), ((tt, omega arith), tt));
    begun = λ _ _. (makes first_run (λ p h. h), (tt, omega arith), tt);
    joined = λ _ _. (g, (tt, omega arith), run_is_told (run_of now.debuggee.program));
    agreed = λ c _ _. (g, agreed_right (given_of now) c, tt);
    restarts = λ _. (makes (λ p. first_run (restarted p)) restarted_short, (tt, omega arith), tt);
    terminates = λ _. (makes (ended None) (λ p h. h), (tt, omega arith), ((tt, omega arith), tt));
    leaves = λ arguments _. (
      makes (λ p. departed (is_to_end terms arguments) (is_to_stand terms arguments) (left p))
          (λ p g. grind (arith, left_short p g)),
      (tt, omega arith),
      tt,
    );
    pauses = λ _ _. (makes (marked mark.Pause) (marked_short mark.Pause), (tt, omega arith), tt);
    stepped = λ c _ goal _. (makes (resumed goal) (λ p h. h), step_right c, tt);
    refused = λ _ _ refusal _ _. (g, (tt, omega arith), tt);
    sets_none = λ c _ p b _ e _ asked. (g, IfOk-at_ok IsReadable e (sets c p asked).0, tt);
    sets_list = λ c _ p b list _ e f _ asked.
        let fine = sets c p asked in
        (makes (with_list c list) (listed_short c list (rw f at fine.1)), IfOk-at_ok IsReadable e fine.0, tt);
    shows = λ c _ p b is e _ _ _.
        let short : IsShort p = subst OfProgram is g in
        let words : HoldsWords p.machine = holds_words p (subst OrderlyOf is o) in (
          g,
          IfOk-at_ok IsReadable e
              (looks_are_readable c p.machine p.image.lines now.numbers (view_of terms p) words short.labels short.path),
          tt,
        );
    sets_register = λ arguments p setting _ e _ _. (
      makes (with_hart setting.hart) (λ p h. h),
      IfOk-at_ok (λ (s : Setting). IsReadable s.body) e (settings_are_readable arguments p.machine now.numbers),
      tt,
    );
    writes = λ arguments p writing _ e _ _. (
      makes (written writing.address (take writing.count arguments.bytes)) (λ p h. h),
      IfOk-at_ok (λ (w : Writing). IsReadable w.body) e (writings_are_readable arguments p.machine.memory),
      tt,
    );
  }

  answer_right : (file : Option (List ℕ)) (p : Pending) → IsShortAsk p.ask → OfAnswer (answer_to now terms file p)
  answer_right file p asked =
      of_answer (λ ask answer. IsShortAsk ask → OfAnswer answer) now terms file p.ask p.fate (λ refusal _ _. (g, (tt, omega arith), tt))
      (λ r _ meets request. by_success (given_of now) terms OfTaken successes file r.command meets.loaded request) asked

-- ---- what the acts say

told_right : (events : List Told) → OfEvents events → OfActs (map Tell events)
told_right [] e = tt
told_right (x ∷ events) e = (e.0, told_right events e.1)

tells_right : (now : Now) (events : List Told) → OfEvents events → OfActs (tells now events)
tells_right now events e = if_keeps OfActs (is_active now.link) _ [] (λ _. told_right events e) (λ _. tt)

logs_right : (texts : List (List ℕ)) → AllByRecursion IsShortText texts → OfEvents (map log_event texts)
logs_right [] short = tt
logs_right (text ∷ texts) short = (log_readable text short.0, logs_right texts short.1)

output_right : (printed : Option ℤ) (texts : List (List ℕ)) → AllByRecursion IsShortText texts → OfEvents (output_events printed texts)
output_right printed texts short = grind (arith, logs_right texts short, number_readable)

halts_right : (now : Now) (p : Program) (reason : Why) (ids : List ℕ) → IsShort p → length ids ≤ 3072 → OfActs (halts now p reason ids)
halts_right now p reason ids g few = (g, tells_right now (stop_event reason ids ∷ []) (stop_readable reason ids few, tt))

exits_right : (now : Now) (p : Program) (code : ℤ) → IsShort p → OfActs (exits now p code)
exits_right now p code g = (g, tells_right now (exit_events code) ((tt, omega arith), ((tt, omega arith), tt)))

concludes_right : (now : Now) (p : Program) (outcome : CameTo) (ids : List ℕ) → IsShort p → length ids ≤ 3072
    → OfActs (concludes now p outcome ids)
concludes_right now p outcome ids g few = grind (arith, halts_right, exits_right)

telling_right : (now : Now) (p : Program) (tick : Tick) → IsShort p → OfActs (telling now p tick)
telling_right now p tick g =
    let t : IsShort (told p) = told_short p g in
    let logs = logs_are_short p.machine.lists p.machine.lists.logs g.few.source.0 in (
      t,
      all_append OfAct (tells now (output_events tick.printed (logged p.machine.lists))) _
          (tells_right now (output_events tick.printed (logged p.machine.lists)) (output_right tick.printed (logged p.machine.lists) logs))
          (concludes_right now (told p) tick.outcome p.machine.lists.ids t g.few.ids),
    )

-- ---- a beat

beat_right : (program : Option Program) (seen : Seen) (more : Bool) → OfProgram program → OfActs (beat_of program seen more).acts
beat_right None seen more g = tt
beat_right (Some p) seen more g = by_program seen p more (λ b. OfActs b.acts) (record {
  tells = λ tick _. telling_right seen.now p tick g;
  ends_for = λ _ _ _. tt;
  stops_for = λ reason _ _. halts_right seen.now p reason [] g (omega arith);
  exits_with = λ code _ _ _. exits_right seen.now p code g;
  enters = λ _ _ _. (entered_short p g, tt);
  moves = λ _ _ _ _ _. (moved_short p g, tt);
})

-- ---- sessions

-- what is kept
pub record OfParts (now : Option Program) (waiting : List Ask) (lives : List Life) (last : List Said) : Type 0 where
  pub program : OfProgram now
  pub asks : AllByRecursion IsShortAsk waiting
  pub before : All AllReadable lives
  pub present : All (λ (m : Said). IsReadableMessage m.message) last

-- much of what is done to a session changes none of these
abbrev OfSession : Session → Type 0
OfSession s = OfParts s.now.debuggee.program (asks_that_wait s.now.arrivals.pending) s.before s.life.said

none_said : AllReadable no_life
none_said = All-nil (λ (m : Said). IsReadableMessage m.message)

-- ---- each event

-- what is kept, with what is known of the program in each state
abbrev Stays : Session → Type 0
Stays s = OfSession s × StaysOrderly s

turn_right : (file : Option (List ℕ)) → EachTurn file (λ s acts. Stays s → OfActs acts)
turn_right file = record {
  nothing = λ _ _. tt;
  tells = λ l p tick s is _ r. telling_right (on (Some l) s).now p tick (subst OfProgram is r.0.program);
  answers = λ l p rest s _ r.
      let now = (on_with (Some l) (p ∷ rest) s).now in
      let right = answer_right now l.terms r.0.program r.1.program file p r.0.asks.0 in
      let answer = answer_to now l.terms file p in
      let told = told_right answer.events right.2 in (
        right.0,
        (
          tt,
          (
            tt,
            (
              right.1,
              all_append OfAct (map Tell answer.events) (closing answer.closes) told
                  (elim answer.closes as (λ closes. OfActs (closing closes)) [ true ↦ (tt, tt) | false ↦ tt ]),
            ),
          ),
        ),
      );
}

outcome_right : (e : Event) (s : Session) → Stays s → OfActs (outcome_at (histories.see s) s.now.link e).acts
outcome_right e s r = by_event (histories.see s) s.now.link (λ _ o. OfActs o.acts) (record {
  refuses = λ _ _. tt;
  opens = (tt, tt);
  accepts = λ _. (tt, tt);
  turns = λ file. each_turn file (λ s acts. Stays s → OfActs acts) (turn_right file) s.now.link s r;
  slices = λ _. tt;
  holds = (on_all (marked mark.Hold) (marked_short mark.Hold) s.now.debuggee.program r.0.program, tt);
  takes = λ _. (tt, tt);
  drops = λ _ _. (on_all left left_short s.now.debuggee.program r.0.program, (tt, tt));
}) e

-- ---- and what acts make of a session

says : (m : Message) (rest : List Pending) (s : Session) → IsReadableMessage m → AllByRecursion IsShortAsk (asks_that_wait rest)
    → OfSession s → OfSession (said_on s.now.link m rest s)
says m rest s right wait = said_by OfSession s.now.link m rest s (λ l _ r. record {
  program = r.program;
  asks =
      if_keeps (λ (x : List Pending). AllByRecursion IsShortAsk (asks_that_wait x)) (eqb (l.seq + 1) s.now.limits.last_seq) [] rest
      (λ _. tt) (λ _. wait);
  before = r.before;
  present = All-push (λ (x : Said). IsReadableMessage x.message) s.life.said (said_next s.now l m) r.present right;
})

-- the names of requests are plain, and short
name_fits : (c : Command) → (are_plain (name_of c) && leb (length (name_of c)) 100) ≡ true
name_fits command.Threads = refl
name_fits _ = refl

name_right : (ask : Ask) → IsShortAsk ask → IsShortText (name_asked ask)
name_right (Request x) a = let name = spelled 100 (name_of x.command) (name_fits x.command) in (utf8_of name, omega (arith, name.few))
name_right (Bad seq command refusal) a = a

replies : (pending : List Pending) (outcome : Answered) (s : Session) → IsReadableOutcome outcome
    → AllByRecursion IsShortAsk (asks_that_wait pending) → OfSession s → OfSession (replied_on pending outcome s)
replies [] outcome s right a r = r
replies (p ∷ rest) outcome s right a r =
    let name = name_right p.ask a.0 in
    says (IsResponse (response_to p.ask outcome)) rest s
    ((name.0, right.0), omega (arith, written_few (name_asked p.ask) 1048576 name.1, right.1)) a.1 r

act_keeps : (act : Act) (s : Session) → OfAct act → OfSession s → OfSession (performed_on act s)
act_keeps Open s a r = opens_by OfSession s.now.link s
    (λ r. assumption (All-push AllReadable s.before s.life r.before r.present, none_said)) r
act_keeps Close s a r = assumption
act_keeps (Accept piece) s a r = accepts_by OfSession s.now.link piece s
    (λ _ _ r. assumption (joined_are IsShortAsk (asks_of (read_on s.now piece).bodies) s.now.arrivals r.asks
    (asks_are_short s.now piece))) r
act_keeps (Agree terms) s a r = agrees_by OfSession s.now.link terms s (λ _ r. r) r
act_keeps (Become d) s a r = assumption
act_keeps (Refer call) s a r = refers_by OfSession s.now.link call s (λ _ r. r) r
act_keeps (Reply outcome) s a r = replies s.now.arrivals.pending outcome s a r.asks r
act_keeps (Tell e) s a r = says (IsEvent e) s.now.arrivals.pending s (a.0, omega (arith, a.1)) r.asks r
act_keeps HangUp s a r = hangs_by OfSession s.now.link s (λ _ r. r) r
act_keeps (Take n) s a r = r

acts_keep : (acts : List Act) (s : Session) → OfActs acts → OfSession s → OfSession (performed histories acts s)
acts_keep [] s a r = r
acts_keep (act ∷ acts) s a r = acts_keep acts (performed_on act s) a.1 (act_keeps act s a.0 r)

-- ---- what happens

-- what is known of the program in each state, whatever is kept with it
nothing_more : KeptByEvents (λ _. Unit {0})
nothing_more = assumption

beats_stay : (n i : ℕ) (s : Session) → Stays s → Stays (beats histories n i s).state
beats_stay = by_beats Stays (λ s more r. (
  acts_keep (beat (histories.see s) more).acts s (beat_right s.now.debuggee.program (histories.see s) more r.0.program) r.0,
  (beat_keeps (λ _. Unit {0}) nothing_more s more (tt, r.1)).1,
))

event_stays : (e : Event) (s : Session) → Stays s → Stays (Effect s e)
event_stays (Slice n) s r = beats_stay n (enough n) s r
event_stays e s r = (
  acts_keep (outcome_at (histories.see s) s.now.link e).acts s (outcome_right e s r) r.0,
  (outcome_keeps (λ _. Unit {0}) nothing_more s.now.link e s (tt, r.1)).1,
)

pub all_readable : (from : Beginning) (events : List Happened) → HasPath from → (c : ℕ)
    → All (λ (m : Said). IsReadableMessage m.message) (life_of c (Reached from events)).said
all_readable from events path c =
    let begun : OfSession (start from) =
    assumption (first_short from.program from.size from.image path, All-nil AllReadable, none_said) in
    let s : Session = Reached from events in
    let r : OfSession s = (reached Stays event_stays beats_stay from (begun, begins_so from) events).0 in
    each_life AllReadable s none_said r.before r.present c
