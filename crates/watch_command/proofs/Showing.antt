-- What is written of events, one after the other, and of steps.
use Rattle.watch_command.proofs.Common.{[], add-one, after, answered, ap, append-nil, append_assoc, Bool, cond, Config, DoesOne, Done, drop, drop-cons, drop_all, EachSays, Err, Event, false, first_known, get_or, HasEvents, HasPart, inl, inr, is_asked, IsReady, KnownReads, KnowsIf, length, lines_of, List, no_session, Ok, Option, others_known, refl, Replays, ReplaysIn, Result, said, Shows, ShowsAll, Step, Stream, subst, suc, sym, Tail, take, take-append-drop, Talk, Talks, true, within, Writes, ℕ, ◌++◌, ◌+◌, ◌<◌, ◌∙◌, ◌∷◌, ◌≡◌, ◌≤◌}
use Rattle.std.proofs.KnownBytes.{Appends-nil, Appends-trans}
use Rattle.std.specs.Io.KnownBytes.{Appends}
use Rattle.blocking_io.specs.Writing.{IsPartWritten}
use Rattle.framing.specs.Reading.Tail.{Partial}
use Rattle.session.specs.Begins.{Begins, HasBegun, beginning_of}
use Rattle.session.specs.Kept.{Kept, Stands}
use Rattle.session.specs.Limits.{greatest_limits}
use Rattle.session.specs.Sessions.{Session, start}
use Rattle.session.specs.declared.config.ConfigError.{ConfigError}
use Rattle.session.specs.declared.config.ConfigError.TheVariants as config
use Rattle.watch_command.proofs.Failing.{done_by}
use Rattle.watch_command.specs.declared.asked.Asked.{Asked}
use Rattle.watch_command.specs.declared.asked.Unwritten.{Unwritten}
use Rattle.watch_command.specs.declared.asked.Unwritten.TheVariants as unwritten

-- ---- a first part

-- nothing
pub no_part : (held : Option (List ℕ)) (text : List ℕ) → HasPart held held text
no_part held text = record { part = []; rest = text; is = refl; appended = Appends-nil held }

-- what was written of bytes
pub part_written : (before after : Option (List ℕ)) (bytes : List ℕ) → IsPartWritten before after bytes → HasPart before after bytes
part_written before after bytes h = record {
  part = take h.count bytes;
  rest = drop h.count bytes;
  is = sym (take-append-drop h.count bytes);
  appended = h.appended;
}

-- of what comes next
part_more : (before now after : Option (List ℕ)) (text next rest whole : List ℕ) → Appends before now text → whole ≡ text ++ (next ++ rest)
    → HasPart now after next → HasPart before after whole
part_more before now after text next rest whole appended is h = record {
  part = text ++ h.part;
  rest = h.rest ++ rest;
  is = is ∙ ap (λ (l : List ℕ). text ++ (l ++ rest)) h.is ∙ ap (λ (l : List ℕ). text ++ l) (append_assoc h.part h.rest rest)
      ∙ sym (append_assoc text h.part (h.rest ++ rest));
  appended = Appends-trans before now after text h.part appended h.appended;
}

-- ---- the lines of one event

-- they were not asked for
pub not_asked : (asked : Asked) (n : ℕ) (lines : List ℕ) (held : Option (List ℕ)) → is_asked asked n ≡ false
    → Appends held held (within asked n lines)
not_asked asked n lines held off =
    subst (λ (b : Bool). Appends held held (cond b lines [])) (sym off) (Appends-nil held)

-- they were, and so this is so of what is shown
pub was_asked : (P : List ℕ → Type 0) (asked : Asked) (n : ℕ) (lines : List ℕ) → is_asked asked n ≡ true → P lines
    → P (within asked n lines)
was_asked P asked n lines on h = subst (λ (b : Bool). P (cond b lines [])) (sym on) h

module _ (asked : Asked) (n : ℕ) (e : Event) (old new : Kept) (stream stream' : Stream) (before after' : Option (List ℕ)) (lines : List ℕ)
    (does : DoesOne asked n e old new stream stream' (λ said. lines ≡ said)) where
  shows_lines : (result : Result (Unit {0}) Unwritten) → Writes (within asked n lines) before after' result
      → Shows asked n e old new stream stream' before after' result
  shows_lines (Ok done) h = (
    does.0,
    (
      does.1.0,
      record {
        ready = does.1.1.ready;
        each = λ s stands. (
            let one = does.1.1.each s stands in
            (one.0, (one.1.0, subst (λ (l : List ℕ). Appends before after' (within asked n l)) one.1.1 h))
            );
      },
    ),
  )
  shows_lines (Err why) h =
      (does.0, (does.1.0, λ s stands. subst (λ (l : List ℕ). HasPart before after' (within asked n l)) (does.1.1.each s stands).1.1 h))

  pub shows : (written : List ℕ) → written ≡ lines → (result : Result (Unit {0}) Unwritten)
      → Writes (within asked n written) before after' result → Shows asked n e old new stream stream' before after' result
  shows written is result h = shows_lines result (subst (λ (l : List ℕ). Writes (within asked n l) before after' result) is h)

-- before anything was done
pub shows_nothing : (asked : Asked) (n : ℕ) (e : Event) (old new : Kept) (stream stream' : Stream) (held : Option (List ℕ)) (why : Unwritten)
    → Shows asked n e old new stream stream' held held (Err why)
shows_nothing asked n e old new stream stream' held why =
    ([], ((λ off. refl), λ s stands. no_part held (within asked n (said [] n (record { session = s; tail = stream.unframer.tail }) e))))

-- ---- events, one after the other

-- what is said of events, by what is known, from a place on
abbrev pub Says : Type 0
Says = List (List (List ℕ)) → List ℕ

-- this text was said of the whole so far, by what was known, and this is the rest
pub record SoFar (asked : Asked) (whole rest : Says) (text : List ℕ) : Type 0 where
  pub knows : List (List (List ℕ))
  pub none : KnowsIf asked knows
  pub is : (more : List (List (List ℕ))) → KnowsIf asked more → whole (knows ++ more) ≡ text ++ rest more

nothing_more : (asked : Asked) → KnowsIf {A = List (List ℕ)} asked []
nothing_more asked off = refl

-- one event more
said_on : (asked : Asked) (whole rest : Says) (text : List ℕ) (one : List (List ℕ) → List ℕ) (next : Says) (known : List (List ℕ))
    → ((more : List (List (List ℕ))) → rest more ≡ one (first_known more) ++ next (others_known more)) → KnowsIf asked known
    → SoFar asked whole rest text → SoFar asked whole next (text ++ one known)
said_on asked whole rest text one next known parts none h = by asked.facts refl where
  by : (b : Bool) → asked.facts ≡ b → SoFar asked whole next (text ++ one known)
  by true on = record {
    knows = h.knows ++ known ∷ [];
    none = λ e. absurd (let not : true ≡ false = sym on ∙ e in cc);
    is = λ more _. ap whole (append_assoc h.knows (known ∷ []) more)
        ∙ h.is (known ∷ more) (λ e. absurd (let not : true ≡ false = sym on ∙ e in cc))
        ∙ ap (λ (l : List ℕ). text ++ l) (parts (known ∷ more)) ∙ sym (append_assoc text (one known) (next more));
  }
  by false e = record {
    knows = h.knows;
    none = h.none;
    is = λ more k. (
        let empty : more ≡ [] = k e in
        let nothing : known ≡ [] = none e in
        h.is more k ∙ ap (λ (l : List ℕ). text ++ l)
        (parts more ∙ ap (λ (m : List (List (List ℕ))). one (first_known m) ++ next (others_known m)) empty
        ∙ ap (λ (x : List (List ℕ)). one x ++ next []) (sym nothing)
        ∙ ap (λ (m : List (List (List ℕ))). one known ++ next m) (sym empty))
        ∙ sym (append_assoc text (one known) (next more))
        );
  }

-- some of the whole was written before these events
pub record Leads (asked : Asked) (events : List Event) (number : ℕ) (tail : Tail) (session : Kept) (before now : Option (List ℕ))
    (whole : Says) : Type 0 where
  pub state : Session
  pub stands : Stands session state
  pub text : List ℕ
  pub appended : Appends before now text
  pub so_far : SoFar asked whole (λ more. lines_of more asked (number + 1) (record { session = state; tail = tail }) events) text

-- all that events say, from a session on
abbrev pub all_of : Asked → Session → Tail → List Event → Says
all_of asked s tail events knows = lines_of knows asked 1 (record { session = s; tail = tail }) events

-- from what there was at first to what is left
pub record Showing (asked : Asked) (events : List Event) (old : Kept) (tail : Tail) (before now : Option (List ℕ)) (index number : ℕ)
    (session : Kept) (stream : Stream) : Type 0 where
  pub count : number ≡ index
  pub ready : IsReady stream
  pub each : (s : Session) → Stands old s
      → Leads asked (drop index events) number stream.unframer.tail session before now (all_of asked s tail events)

pub not_yet : (asked : Asked) (events : List Event) (old : Kept) (held : Option (List ℕ)) (stream : Stream) → IsReady stream
    → Showing asked events old stream.unframer.tail held held 0 0 old stream
not_yet asked events old held stream ready = record {
  count = refl;
  ready = ready;
  each = λ s stands. record {
    state = s;
    stands = stands;
    text = [];
    appended = Appends-nil held;
    so_far = record { knows = []; none = nothing_more asked; is = λ more _. refl };
  };
}

module _ (asked : Asked) (e : Event) (events : List Event) (number : ℕ) (session session' : Kept) (stream stream' : Stream)
    (before now now' : Option (List ℕ)) (whole : Says) where
  lead_on : Leads asked (e ∷ events) number stream.unframer.tail session before now whole
      → DoesOne asked (number + 1) e session session' stream stream' (λ lines. Appends now now' (within asked (number + 1) lines))
      → Leads asked events (number + 1) stream'.unframer.tail session' before now' whole
  lead_on g does =
      let talk : Talk = record { session = g.state; tail = stream.unframer.tail } in
      let one = does.1.1.each g.state g.stands in
      let shown : List (List ℕ) → List ℕ = λ knows. within asked (number + 1) (said knows (number + 1) talk e) in
      let next = said_on asked whole _ g.text shown (λ more. lines_of more asked (number + 1 + 1) (after talk e) events) does.0
      (λ more. refl) does.1.0 g.so_far in
      record {
        state = (after talk e).session;
        stands = one.0;
        text = g.text ++ shown does.0;
        appended = Appends-trans before now now' g.text (shown does.0) g.appended one.1.1;
        so_far =
            subst (λ (t : Tail). SoFar asked whole
            (λ more. lines_of more asked (number + 1 + 1) (record { session = (after talk e).session; tail = t }) events)
            (g.text ++ shown does.0)) (sym one.1.0) next;
      }

  lead_off : Leads asked (e ∷ events) number stream.unframer.tail session before now whole → (why : Unwritten)
      → Shows asked (number + 1) e session session' stream stream' now now' (Err why)
      → (knows : List (List (List ℕ))) × (KnowsIf asked knows × HasPart before now' (whole knows))
  lead_off g why h =
      let talk : Talk = record { session = g.state; tail = stream.unframer.tail } in
      let shown : List (List ℕ) → List ℕ = λ knows. within asked (number + 1) (said knows (number + 1) talk e) in
      let rest : Says = λ more. lines_of more asked (number + 1 + 1) (after talk e) events in
      let next = said_on asked whole _ g.text shown rest h.0 (λ more. refl) h.1.0 g.so_far in
      let is : whole next.knows ≡ g.text ++ (shown h.0 ++ rest []) = ap whole (sym (append-nil next.knows))
      ∙ next.is [] (nothing_more asked)
      ∙ append_assoc g.text (shown h.0) (rest []) in (
        next.knows,
        (
          next.none,
          part_more before now now' g.text (shown h.0) (rest []) (whole next.knows) g.appended is
              (h.1.1 g.state g.stands),
        ),
      )

-- what is left at a place begins with what stands there
here : (events : List Event) (index : ℕ) (e : Event) → index < length events → e ≡ get_or events index e
    → drop index events ≡ e ∷ drop (index + 1) events
here events index e short is =
    drop-cons events index e short ∙ ap (λ (x : Event). x ∷ drop (suc index) events) (sym is)
    ∙ ap (λ (k : ℕ). e ∷ drop k events) (sym (add-one index))

module _ (asked : Asked) (events : List Event) (old : Kept) (tail : Tail) (before now now' : Option (List ℕ)) (index number : ℕ)
    (session session' : Kept) (stream stream' : Stream) (e : Event) (short : index < length events) (is : e ≡ get_or events index e)
    (h : Showing asked events old tail before now index number session stream) where
  led : (s : Session) → Stands old s
      → Leads asked (e ∷ drop (index + 1) events) number stream.unframer.tail session before now (all_of asked s tail events)
  led s stands =
      subst (λ (l : List Event). Leads asked l number stream.unframer.tail session before now (all_of asked s tail events))
      (here events index e short is) (h.each s stands)

  pub next_shown : DoesOne asked (number + 1) e session session' stream stream' (λ lines. Appends now now' (within asked (number + 1) lines))
      → Showing asked events old tail before now' (index + 1) (number + 1) session' stream'
  next_shown does = record {
    count = ap (λ (k : ℕ). k + 1) h.count;
    ready = does.1.1.ready;
    each =
        λ s stands. lead_on asked e (drop (index + 1) events) number session session' stream stream' before now now' _ (led s stands) does;
  }

  pub cut_off : (why : Unwritten) → Shows asked (number + 1) e session session' stream stream' now now' (Err why)
      → EachSays asked old tail (HasPart before now') events
  cut_off why shown s stands =
      lead_off asked e (drop (index + 1) events) number session session' stream stream' before now now' _ (led s stands) why shown

pub all_shown : (asked : Asked) (events : List Event) (old : Kept) (tail : Tail) (before now : Option (List ℕ)) (index number : ℕ) (session : Kept)
    (stream : Stream) → length events ≤ index → Showing asked events old tail before now index number session stream
    → EachSays asked old tail (Appends before now) events
all_shown asked events old tail before now index number session stream all h s stands =
    let g = h.each s stands in
    let none : drop index events ≡ [] = drop_all index events all in
    let is : lines_of g.so_far.knows asked 1 (record { session = s; tail = tail }) events ≡ g.text =
    ap (λ (l : List (List (List ℕ))). lines_of l asked 1 (record { session = s; tail = tail }) events) (sym (append-nil g.so_far.knows))
    ∙ g.so_far.is [] (nothing_more asked)
    ∙ ap (λ (l : List Event). g.text ++ lines_of [] asked (number + 1) (record { session = g.state; tail = stream.unframer.tail }) l) none
    ∙ append-nil g.text in
    (g.so_far.knows, (g.so_far.none, subst (Appends before now) (sym is) g.appended))

-- ---- steps

module _ (asked : Asked) (steps : List Step) (files files' : KnownReads) (before after' : Option (List ℕ)) where
  replays_events : (old : Kept) (stream : Stream) (events : List Event) → HasEvents steps files files' events
      → stream.unframer.tail ≡ Partial []
      → (result : Result (Unit {0}) Unwritten) → ShowsAll asked events old stream before after' result
      → ReplaysIn old asked steps files files' before after' result
  replays_events old stream events has fresh (Ok done) h =
      done_by steps files files' events (EachSays asked old (Partial []) (Appends before after')) has
      (subst (λ (t : Tail). EachSays asked old t (Appends before after') events) fresh h)
  replays_events old stream events has fresh (Err unwritten.Write) h =
      done_by steps files files' events (EachSays asked old (Partial []) (HasPart before after')) has
      (subst (λ (t : Tail). EachSays asked old t (HasPart before after') events) fresh h)
  replays_events old stream events has fresh (Err unwritten.NoMemory) h =
      inr (done_by steps files files' events (EachSays asked old (Partial []) (HasPart before after')) has
      (subst (λ (t : Tail). EachSays asked old t (HasPart before after') events) fresh h))

  pub replays_in : (old : Kept) (stream : Stream) (given events : List Event) → given ≡ events → HasEvents steps files files' events
      → stream.unframer.tail ≡ Partial [] → (result : Result (Unit {0}) Unwritten) → ShowsAll asked given old stream before after' result
      → ReplaysIn old asked steps files files' before after' result
  replays_in old stream given events is has fresh result shown =
      replays_events old stream events has fresh result
      (subst (λ (l : List Event). ShowsAll asked l old stream before after' result) is shown)

  talks : (c : Config) (old : Kept) (P : List ℕ → Type 0) → HasBegun c greatest_limits old
      → Done steps files files' (EachSays asked old (Partial []) P) → Talks c asked steps files files' P
  talks c old P begun h = record {
    reads = h.reads;
    files = h.files;
    events = h.events;
    are = h.are;
    so =
        record {
          right = begun.right;
          image = begun.image;
          so = h.so (start (beginning_of c greatest_limits begun.right begun.image)) begun.stands;
        };
  }

  pub replays : (c : Config) (old : Kept) → HasBegun c greatest_limits old → (result : Result (Unit {0}) Unwritten)
      → ReplaysIn old asked steps files files' before after' result
      → Replays c asked steps files files' before after' (answered result)
  replays c old begun (Ok done) h = talks c old (Appends before after') begun h
  replays c old begun (Err unwritten.Write) h = talks c old (HasPart before after') begun h
  replays c old begun (Err unwritten.NoMemory) (inl h) = inl h
  replays c old begun (Err unwritten.NoMemory) (inr h) = inr (talks c old (HasPart before after') begun h)

pub none_begins : (c : Config) (asked : Asked) (steps : List Step) (files : KnownReads) (held : Option (List ℕ)) (why : ConfigError)
    → Begins c greatest_limits (Err why) → Replays c asked steps files files held held (Err (no_session why))
none_begins c asked steps files held config.NoMemory h = inl refl
none_begins c asked steps files held _ h = (h, ((λ e. cc), refl))
