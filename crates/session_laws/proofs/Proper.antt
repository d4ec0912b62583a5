-- Each message is proper, and says what is so of the program's run; and `initialize` succeeds once at most on a connection.
use Rattle.session_laws.proofs.Common.{[], All, All-nil, All-push, All-weaker, answer_on, answer_to, Answering, AnswersAreProper, arith, AsksLinesWithin, Beginning, by_success, BySuccess, Command, Done, each_life, Event as IsEvent, false, first_run, given_of, Happened, Has, has_program, IfOk, initializes, initializes_by, InitializesOnce, is_plain, is_resume, is_running, is_success, is_taken_in, IsNarrowRow, IsPlain, Life, life_of, line_in, Link, List, Looks, Message, name_asked, name_of, None, Now, of_answer, Ok, Option, Orderly, OrderlyIn, OrderlyOf, Pending, Phase, Program, Reached, refl, Refusal, Response, response_to, ResponseBody, restarted, Result, resumed, Run, RunsAreTold, RunsAs, Said, said_next, saying, SaysItsRun, seen_in, Session, SetsList, settings_are_proper, Some, start_of, subst, sym, Terms, times_initialized, true, view_of, Wanted, writings_are_proper, ℕ, ◌&&◌, ◌++◌, ◌+◌, ◌<◌, ◌^◌, ◌∙◌, ◌∷◌, ◌≡◌, ◌≤◌}
use Rattle.answers.proofs.Proper.{answers_are_proper as breaks_are_proper}
use Rattle.answers.proofs.ProperLooking.{looks_are_proper}
use Rattle.answers.specs.Laws.{HoldsWords, IsNarrow, NumbersFit}
use Rattle.handlers.specs.declared.phase.Phase.TheVariants.{Fresh}
use Rattle.replies.specs.Messages.{IsProper}
use Rattle.replies.specs.Responses.{IsOutcomeOf}
use Rattle.session_laws.proofs.Asked.{IsRead, has_no_text, number_is}
use Rattle.session_laws.proofs.ByForms.{on, on_with}
use Rattle.session_laws.proofs.Turning.{answer_orderly, agreed_with, changed, once_answered, BoundsIn, KeptByEvents, KeptByTelling, reached_by_events, runs_as}

-- ---- how often `initialize` can have succeeded in a phase

abbrev Suits : Phase → ℕ → Type 0
Suits Fresh n = n ≡ 0
Suits _ n = n ≤ 1

fewer : (phase : Phase) (n k : ℕ) → Suits phase (n + k) → Suits phase (n + 0)
fewer phase n k h = grind arith

few_in : (phase : Phase) (n : ℕ) → Suits phase n → n ≤ 1
few_in phase n h = grind arith

-- ---- one answer

-- the line table of a program is narrow
narrow_table : (p : Program) → Orderly p → IsNarrow p.image.lines
narrow_table p h = record {
  lines = All-weaker IsNarrowRow (λ row. line_in row < 2 ^ 32) (λ row narrow. narrow.0) p.image.lines.rows h.image;
  places = All-weaker IsNarrowRow (λ row. start_of row < 2 ^ 32) (λ row narrow. narrow.1) p.image.lines.rows h.image;
}

-- the numbers of an orderly program are words
pub holds_words : (p : Program) → Orderly p → HoldsWords p.machine
holds_words p h =
    let m = h.range.machine.machine in
    record { pc = m.pc; registers = m.x.words; memory = m.memory; calls = h.range.machine.calls.words; few = h.range.machine.calls.few }

abbrev Goes : Run → Type 0
Goes run = is_running run ≡ true

-- An answer to a request of that name has the body of its request, lets the program continue only where it does, and agrees on
-- a phase that suits how often `initialize` has succeeded then.
record Fits (n : ℕ) (name : List ℕ) (a : Answering) : Type 0 where
  outcome : IsOutcomeOf name a.outcome
  runs : (is_success a.outcome && is_resume name) ≡ true → RunsAs Goes a.debuggee
  suits : Suits a.terms.phase (n + initializes a.outcome)

never : {A : Type 0} → false ≡ true → A
never e = absurd (cc)

-- the answer to a request that its phase takes, with the program that it asks for
abbrev FitsTaken : Now → Terms → ℕ → Command → Answering → Type 0
FitsTaken now terms n c a = is_taken_in terms.phase c ≡ true → Has (given_of now) c → AsksLinesWithin c → Fits n (name_of c) a

module _ (now : Now) (terms : Terms) (b : BoundsIn now) (h : OrderlyIn now.debuggee) (n : ℕ) (s : Suits terms.phase (n + 0)) where
  few : n + 0 ≤ 1
  few = few_in terms.phase (n + 0) s

  abbrev IsOf : Command → Result ResponseBody Refusal → Type 0
  IsOf c result = IfOk result (λ b. IsOutcomeOf (name_of c) (Done b))

  set_is_of : (c : Command) → SetsList c → AsksLinesWithin c → (p : Program) (body : ResponseBody) (list : Option (List Wanted))
      → now.debuggee.program ≡ Some p → (answer_on p (given_of now) terms c).result ≡ Ok body
      → (answer_on p (given_of now) terms c).list ≡ list → NumbersFit (now.debuggee.last_break + 1) list → IsOutcomeOf (name_of c) (Done body)
  set_is_of c kind asks p body list is e f fit =
      let o : Orderly p = subst OrderlyOf is h in
      subst (IsOf c) e
      (breaks_are_proper c p.image.lines p.machine.size (view_of terms p) (now.debuggee.last_break + 1) kind.sets
      (narrow_table p o) o.range.machine.end asks
      (subst (NumbersFit (now.debuggee.last_break + 1)) (sym f) fit))

  shown_is_of : (c : Command) → Looks c → (p : Program) (body : ResponseBody) → now.debuggee.program ≡ Some p
      → (seen_in p (given_of now) terms c).result ≡ Ok body → IsOutcomeOf (name_of c) (Done body)
  shown_is_of c kind p body is e =
      let o : Orderly p = subst OrderlyOf is h in
      subst (IsOf c) e
      (looks_are_proper c p.machine p.image.lines now.numbers (view_of terms p) kind.looks (holds_words p o) (narrow_table p o)
      (record { within = b.numbers.0; last = b.numbers.1 }) (grind arith))

  set_is_plain : (c : Command) → SetsList c → (p : Program) (body : ResponseBody) → (answer_on p (given_of now) terms c).result ≡ Ok body
      → initializes (Done body) ≡ 0
  set_is_plain c kind p body e = subst IsPlain e (is_plain p (given_of now) terms c kind.sets)

  suited : (i : ℕ) → i ≡ 0 → Suits terms.phase (n + i)
  suited i none = subst (λ (k : ℕ). Suits terms.phase (n + k)) (sym none) s

  successes_fit : BySuccess (given_of now) terms (FitsTaken now terms n)
  successes_fit = record {
    initialized = λ _ taken _ _. record { outcome = (refl, refl); runs = never; suits = grind (arith, s, taken) };
    unreadable = λ _ _ _ _. record { outcome = refl; runs = never; suits = s };
    loaded = λ _ _ _ _ _ _. record { outcome = (refl, refl); runs = never; suits = few };
    wrong = λ _ _ _ _ _ _ _. record { outcome = refl; runs = never; suits = s };
    attaches = λ _ _ _. record { outcome = (refl, refl); runs = never; suits = few };
    begun = λ _ _ _ _. record { outcome = (refl, refl); runs = never; suits = few };
    joined = λ _ _ _ _. record { outcome = (refl, refl); runs = never; suits = few };
    agreed = λ c kind _ _ _. record { outcome = kind.outcome; runs = λ e. never (sym kind.stays ∙ e); suits = suited _ kind.plain };
    restarts = λ _ there _. record {
      outcome = (refl, refl);
      runs = λ _. runs_as Goes (λ p. first_run (restarted p)) now.debuggee.program there (λ _. refl);
      suits = s;
    };
    terminates = λ _ _ _. record { outcome = (refl, refl); runs = never; suits = s };
    leaves = λ _ _ _ _. record { outcome = (refl, refl); runs = never; suits = few };
    pauses = λ _ _ _ _. record { outcome = (refl, refl); runs = never; suits = s };
    stepped = λ c kind g _ there _. record {
      outcome = kind.outcome;
      runs = λ _. runs_as Goes (resumed g) now.debuggee.program (has_program (given_of now) c kind.loaded there) (λ _. refl);
      suits = suited _ kind.plain;
    };
    refused = λ _ _ refusal plain _ _ _. record { outcome = sym plain; runs = never; suits = s };
    sets_none = λ c kind p body is e f _ _ asks. record {
      outcome = set_is_of c kind asks p body None is e f tt;
      runs = λ x. never (sym kind.about.stays ∙ x);
      suits = suited _ (set_is_plain c kind p body e);
    };
    sets_list = λ c kind p body list is e f within _ _ asks. record {
      outcome = set_is_of c kind asks p body (Some list) is e f (let least = b.references in omega (arith, within, least));
      runs = λ x. never (sym kind.about.stays ∙ x);
      suits = suited _ (set_is_plain c kind p body e);
    };
    shows = λ c kind p body is e none _ _ _ _. record {
      outcome = shown_is_of c kind p body is e;
      runs = λ x. never (sym kind.about.stays ∙ x);
      suits = suited _ none;
    };
    sets_register = λ arguments p setting is e none _ _ _. record {
      outcome = rw e at (settings_are_proper arguments p.machine now.numbers);
      runs = never;
      suits = suited _ none;
    };
    writes = λ arguments p writing is e none _ _ _. record {
      outcome = rw e at (writings_are_proper arguments p.machine.memory);
      runs = never;
      suits = suited _ none;
    };
  }

  answer_fits : (file : Option (List ℕ)) (p : Pending) → IsRead p.ask → Fits n (name_asked p.ask) (answer_to now terms file p)
  answer_fits file p read =
      of_answer (λ ask answer. IsRead ask → Fits n (name_asked ask) answer) now terms file p.ask p.fate
      (λ refusal is read. record { outcome = sym (has_no_text p.ask refusal read is); runs = never; suits = s })
      (λ r taken meets read. by_success (given_of now) terms (FitsTaken now terms n) successes_fit file r.command meets.loaded
      taken meets.loaded read.1.0) read

-- ---- every session

abbrev IsSound : Said → Type 0
IsSound m = IsProper m.message × SaysItsRun m.message m.snapshot.debuggee

record AllSound (said : List Said) : Type 0 where
  each : All IsSound said
  once : times_initialized said ≤ 1

abbrev Sound : Life → Type 0
Sound life = AllSound life.said

nothing_said : AllSound []
nothing_said = record { each = All-nil IsSound; once = omega arith }

abbrev SuitsOn : Option Link → ℕ → Type 0
SuitsOn None n = Unit {0}
SuitsOn (Some l) n = Suits l.terms.phase n

record AreSound (s : Session) : Type 0 where
  before : All Sound s.before
  present : Sound s.life
  suits : SuitsOn s.now.link (times_initialized s.life.said + 0)

times-append : (xs : List Said) (m : Said) → times_initialized (xs ++ m ∷ []) + 0 ≡ times_initialized xs + initializes_by m.message
times-append [] m = omega arith
times-append (x ∷ xs) m = omega (arith, times-append xs m)

-- a message is said
says : (l : Link) (m : Message) (rest : List Pending) (s : Session) → IsProper m → SaysItsRun m s.now.debuggee
    → Suits l.terms.phase (times_initialized s.life.said + initializes_by m) → All Sound s.before → Sound s.life
    → AreSound (saying l m rest (on (Some l) s))
says l m rest s proper so suits before present =
    let said : Said = said_next s.now l m in
    let fits : Suits l.terms.phase (times_initialized (s.life.said ++ said ∷ []) + 0) =
    subst (Suits l.terms.phase) (sym (times-append s.life.said said)) suits in
    let few = few_in l.terms.phase (times_initialized (s.life.said ++ said ∷ []) + 0) fits in
    record {
      before = before;
      present = record { each = All-push IsSound s.life.said said present.each (proper, so); once = omega (arith, few) };
      suits = fits;
    }

tells : KeptByTelling AreSound
tells l event s proper so _ h = says l (IsEvent event) s.now.arrivals.pending s proper so h.suits h.before h.present

sound : KeptByEvents AreSound
sound = record {
  opens = λ s h. record { before = All-push Sound s.before s.life h.before h.present; present = nothing_said; suits = refl };
  closes = λ s h. record { before = h.before; present = h.present; suits = tt };
  accepts = λ l piece s e h. record { before = h.before; present = h.present; suits = h.suits };
  becomes = λ d s h. record { before = h.before; present = h.present; suits = h.suits };
  tells = tells;
  answers = λ l p rest file s orderly bounds read h.
      let now = (on_with (Some l) (p ∷ rest) s).now in
      let a : Answering = answer_to now l.terms file p in
      let n = times_initialized s.life.said in
      let fits : Fits n (name_asked p.ask) a = answer_fits now l.terms bounds orderly n h.suits file p read.0 in
      once_answered AreSound tells (λ _ _ x. record { before = x.before; present = x.present; suits = x.suits }) l p rest s a
      (answer_orderly now l.terms file p read.0 bounds orderly).2
      (λ _. says (agreed_with l a) (Response (response_to p.ask a.outcome)) rest (changed l (p ∷ rest) s a)
      (omega (arith, number_is p.ask read.0), fits.outcome) fits.runs fits.suits h.before h.present)
      (record { before = h.before; present = h.present; suits = fewer a.terms.phase n _ fits.suits });
  takes = λ n s h. record { before = h.before; present = h.present; suits = h.suits };
}

each_sound : (from : Beginning) (events : List Happened) (c : ℕ) → Sound (life_of c (Reached from events))
each_sound from events =
    let h = reached_by_events AreSound sound from (record { before = All-nil Sound; present = nothing_said; suits = tt }) events in
    each_life Sound (Reached from events) nothing_said h.before h.present

pub answers_are_proper : (from : Beginning) (events : List Happened) → AnswersAreProper (Reached from events)
answers_are_proper from events = λ c. let life = life_of c (Reached from events) in
    All-weaker IsSound (λ (m : Said). IsProper m.message) (λ m sound. sound.0) life.said (each_sound from events c).each

pub runs_are_told : (from : Beginning) (events : List Happened) → RunsAreTold (Reached from events)
runs_are_told from events = λ c. let life = life_of c (Reached from events) in
    All-weaker IsSound (λ (m : Said). SaysItsRun m.message m.snapshot.debuggee) (λ m sound. sound.1) life.said (each_sound from events c).each

pub initializes_once : (from : Beginning) (events : List Happened) → InitializesOnce (Reached from events)
initializes_once from events = λ c. (each_sound from events c).once
