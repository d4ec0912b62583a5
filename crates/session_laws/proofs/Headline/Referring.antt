-- A success of a request that names a reference was queued by a turn, and the reference was good when the turn came.
use Rattle.session_laws.proofs.Headline.Common.{[], accepting, accepts_by, Act, after_answer, All, All-head, AnEvent as Event, answer_to, answering, Answering, ap, append-nil, append_assoc, arith, Ask, asks_of, beat, beat_keeps, beats, Become, Beginning, Both, closing, Cut, Done, Effect, enough, Fate, first_asked, get_or, get_or_push, HangUp, Happened, histories, if_keeps, inl, inr, is_some, IsKnownIn, IsPrefixOf, leaves, led_append, length, Life, life_of, Link, List, ltb, map, Message, no_life, None, Now, number_of, on, on_with, opens_by, Option, outcome_at, outcome_next, Pending, performed, performed_on, Reached, read_on, reference_in, refl, Refused, Replied as Outcome, Request as ARequest, Response as IsResponse, response_to, ResponseBody, Said, said_next, saying, Session, Slice, Snapshot, snapshot_of, Some, start, subst, suc, sym, Take, Tell, telling, Terms, Turn, Whole, with_change, zero, ℕ, ℤ, ⊤, ◌++◌, ◌∙◌, ◌∷◌, ◌≡◌, ◌⊎◌}
use Rattle.queues.specs.declared.pending.Ask.TheVariants.{Request}
use Rattle.session_laws.proofs.Lasting.{references_last}
use Rattle.session_laws.proofs.Turning.{both_reached}
use Rattle.session_laws.proofs.Waiting.{all_counted}
use Rattle.session_laws.specs.References.{ReferencesWereGood, WasGood, named_by, reference_of}
use Rattle.session_laws.proofs.Headline.Agreeing.{never}
use Rattle.session_laws.proofs.Cases.{by_beats, by_event, each_turn, EachTurn}
use Rattle.session_laws.proofs.Headline.Knowing.{first_more, KeptOn, Knows, knows, knows_at_first, of_waiting, WaitsFirst}
use Rattle.session_laws.proofs.Headline.Owing.{all_tell_owe, AllOwe, beat_owes, telling_owes}
use Rattle.session_laws.proofs.Headline.Editing.{later_hold}
use Rattle.session_laws.proofs.Headline.Newly.{acts_queued, nothing_queued, Queued, queued_as, Shows}

-- ---- what a message names

-- it answers no request that names a number, whatever was asked
abbrev NamesNothing : Message → Snapshot → Type 0
NamesNothing m seen = (heard : List Ask) → reference_of heard m ≡ None

-- the number that it names is the same, whatever is asked later
named_still : (heard more : List Ask) (m : Message) → IsKnownIn heard m → reference_of (heard ++ more) m ≡ reference_of heard m
named_still heard more m k = grind (arith, first_more)

-- what is answered with success is the first request of its number
answered_first : (asks : List Ask) (now : Now) (terms : Terms) (file : Option (List ℕ)) (p : Pending) → WaitsFirst asks p
    → (body : ResponseBody) → (answer_to now terms file p).outcome ≡ Done body
    → (r : ARequest) × (p.ask ≡ Request r) × (first_asked asks r.seq ≡ Some r)
answered_first asks now terms file p first =
    of_waiting (λ ask a. (body : ResponseBody) → a.outcome ≡ Done body → (r : ARequest) × (ask ≡ Request r) × (first_asked asks r.seq ≡ Some r))
    asks now terms file p first (λ refusal body e. absurd (let no : Refused refusal None ≡ Done body = e in cc)) (λ r first _ _ body e. (r, refl, first))

-- ---- lists

-- a place in two lists, one after the other, is in the first or in the second
abbrev Cuts : List Said → List Said → List Said → List Said → Said → Type 0
Cuts xs ys earlier later m =
    ((rest : List Said) × (xs ≡ earlier ++ m ∷ rest)) ⊎ ((mid : List Said) × (earlier ≡ xs ++ mid) × (ys ≡ mid ++ m ∷ later))

cut : (xs ys earlier later : List Said) (m : Said) → xs ++ ys ≡ earlier ++ m ∷ later → Cuts xs ys earlier later m
cut [] ys earlier later m e = inr (earlier, refl, e)
cut (x ∷ xs) ys [] later m e = inl (xs, let same : x ≡ m = cc in ap (λ (y : Said). y ∷ xs) same)
cut (x ∷ xs) ys (z ∷ earlier) later m e =
    by (let same : x ≡ z = cc in same) (cut xs ys earlier later m (let rest : xs ++ ys ≡ earlier ++ m ∷ later = cc in rest)) where
      by : x ≡ z → Cuts xs ys earlier later m → Cuts (x ∷ xs) ys (z ∷ earlier) later m
      by same (inl r) = inl (r.0, ap (λ (l : List Said). x ∷ l) r.1 ∙ ap (λ (y : Said). y ∷ (earlier ++ m ∷ r.0)) same)
      by same (inr r) = inr (r.0, ap (λ (l : List Said). z ∷ l) r.1 ∙ ap (λ (y : Said). y ∷ (xs ++ r.0)) (sym same), r.2)

-- nothing has a place in no list, and one message one place in a list of one
no_place : {A : Type 0} (mid later : List Said) (m : Said) → [] ≡ mid ++ m ∷ later → A
no_place [] later m e = absurd (let no : [] ≡ m ∷ later = e in cc)
no_place (x ∷ mid) later m e = absurd (let no : [] ≡ x ∷ (mid ++ m ∷ later) = e in cc)

only : (Q : List Said → Said → Type 0) (x : Said) → Q [] x → (mid later : List Said) (m : Said) → x ∷ [] ≡ mid ++ m ∷ later → Q mid m
only Q x h [] later m e = subst (Q []) (let same : x ≡ m = cc in same) h
only Q x h (y ∷ mid) later m e = no_place mid later m (let none : [] ≡ mid ++ m ∷ later = cc in none)

at_place : (P : Said → Type 0) (l mid later : List Said) (m : Said) → l ≡ mid ++ m ∷ later → All P l → P m
at_place P l mid later m is all = All-head P m later (later_hold P mid (m ∷ later) (subst (All P) is all))

at_last : (P : Life → Type 0) (xs : List Life) (x y : Life) (c : ℕ) → (c ≡ length xs → P x → P y)
    → P (get_or (xs ++ x ∷ []) c no_life) → P (get_or (xs ++ y ∷ []) c no_life)
at_last P [] x y zero f h = f refl h
at_last P [] x y (suc c) f h = h
at_last P (z ∷ xs) x y zero f h = h
at_last P (z ∷ xs) x y (suc c) f h = at_last P xs x y c (λ e. f (let next : suc c ≡ length (z ∷ xs) = omega (arith, e) in next)) h

none_more : (xs : List Life) (c : ℕ) → get_or (xs ++ no_life ∷ []) c no_life ≡ get_or xs c no_life
none_more [] c = grind arith
none_more (x ∷ xs) zero = refl
none_more (x ∷ xs) (suc c) = none_more xs c

-- ---- acts that answer nothing

owing_show : (acts : List Act) (seen : Snapshot) → AllOwe acts → Shows NamesNothing (λ _. ⊤) seen acts
unfolding AllOwe Shows
owing_show [] seen h = tt
owing_show (Become d ∷ acts) seen h = owing_show acts (record seen { debuggee = d }) h.1
owing_show (Tell e ∷ acts) seen h = ((λ heard. refl), owing_show acts seen h)
owing_show (act ∷ acts) seen h = absurd h

quiet_queued : (acts : List Act) (t : Session) → AllOwe acts → Queued NamesNothing t (performed histories acts t)
quiet_queued acts t h =
    (acts_queued NamesNothing (λ _. ⊤) acts t t (owing_show acts (snapshot_of t.now) h) (nothing_queued NamesNothing t)).0

-- a message more was queued on the present connection
abbrev Queues : Session → Said → Session → Type 0
Queues s m t = (t.before ≡ s.before) × IsPrefixOf (s.life.said ++ m ∷ []) t.life.said

module _ (G : ℕ → List Said → Said → ℤ → Type 0) where
  -- each message of a life that names a number is so, after those before it
  abbrev LifeSo : ℕ → Life → Type 0
  LifeSo c life =
      (earlier later : List Said) (m : Said) (number : ℤ) → life.said ≡ earlier ++ m ∷ later → reference_of life.heard m.message ≡ Some number
      → G c earlier m number

  abbrev LivesSo : Session → Type 0
  LivesSo s = (c : ℕ) → LifeSo c (life_of c s)

  -- messages more were queued, each of which is so
  lives_grow : (s t : Session) (news : List Said) → t.before ≡ s.before → t.life ≡ record s.life { said = s.life.said ++ news }
      → ((mid later : List Said) (m : Said) (number : ℤ) → news ≡ mid ++ m ∷ later → reference_of s.life.heard m.message ≡ Some number
      → G (length s.before) (s.life.said ++ mid) m number)
      → LivesSo s → LivesSo t
  lives_grow s t news before life new h c =
      rw (before, life) (at_last (LifeSo c) s.before s.life (record s.life { said = s.life.said ++ news }) c
      (λ is k earlier later m number e named. by is k earlier later m number named (cut s.life.said news earlier later m e)) (h c)) where
        by : c ≡ length s.before → LifeSo c s.life → (earlier later : List Said) (m : Said) (number : ℤ)
            → reference_of s.life.heard m.message ≡ Some number → Cuts s.life.said news earlier later m → G c earlier m number
        by is k earlier later m number named (inl r) = k earlier r.0 m number r.1 named
        by is k earlier later m number named (inr r) = rw (is, r.1) (new r.0 later m number r.2 named)

  queued_so : (s t : Session) → Queued NamesNothing s t → LivesSo s → LivesSo t
  queued_so s t q =
      lives_grow s t q.news q.grows.before q.grows.life
      (λ mid later m number is named. never number
      (sym (at_place (λ (m : Said). NamesNothing m.message m.snapshot) q.news mid later m is q.all s.life.heard) ∙ named))

  quiet_so : (acts : List Act) (t : Session) → AllOwe acts → LivesSo t → LivesSo (performed histories acts t)
  quiet_so acts t owe h = queued_so t (performed histories acts t) (quiet_queued acts t owe) h

  -- ---- a turn

  -- whatever request names a number is answered with success only where that number is good of the message that says so and is queued by
  -- then, and those that wait are the first of their numbers
  record Ready (s : Session) (file : Option (List ℕ)) (t : Session) : Type 0 where
    waits : KeptOn s.now.link s.life.heard s.now.arrivals
    good : (l : Link) (r : ARequest) (fate : Fate) (number : ℤ) (body : ResponseBody) (m : Said) → s.now.link ≡ Some l
        → reference_in r.command ≡ Some number → outcome_next s l file r fate ≡ Done body → Queues s m t
        → G (length s.before) s.life.said m number

  module _ (l : Link) (p : Pending) (rest : List Pending) (file : Option (List ℕ)) (s : Session) where
    abbrev from : Session
    from = on_with (Some l) (p ∷ rest) s

    reply_so : (m : Said) (u : Session) (number : ℤ) → Ready from file u → Queues s m u
        → (o : Outcome) → (answer_to from.now l.terms file p).outcome ≡ o → named_by o (first_asked s.life.heard (number_of p.ask)) ≡ Some number
        → G (length s.before) s.life.said m number
    reply_so m u number ready queues (Refused refusal text) e named = never number named
    reply_so m u number ready queues (Done body) e named =
        let r = answered_first s.life.heard from.now l.terms file p (All-head (WaitsFirst s.life.heard) p rest ready.waits.waits) body e in
        let asked : first_asked s.life.heard (number_of p.ask) ≡ Some r.0 =
        ap (λ (ask : Ask). first_asked s.life.heard (number_of ask)) r.1 ∙ r.2 in
        ready.good l r.0 p.fate number body m refl
        (sym (ap (named_by (Done body)) asked) ∙ named)
        (subst (λ (ask : Ask). (answer_to from.now l.terms file (record { ask = ask; fate = p.fate })).outcome ≡ Done body) r.1 e) queues

    -- whatever it tells, and whether it closes the connection
    told_after : (a : Answering) (v : Session) → Queued NamesNothing v (performed histories (map Tell a.events ++ closing a.closes) v)
    told_after a v =
        after_answer (Queued NamesNothing v) (λ k t q. queued_as NamesNothing v (on (Some k) t) (performed_on HangUp (on (Some k) t)) refl refl refl refl q)
        a.events a.closes v (quiet_queued (map Tell a.events) v (all_tell_owe a.events))

    answering_so : Ready from file (performed histories (answering (answer_to from.now l.terms file p)) from) → LivesSo from
        → LivesSo (performed histories (answering (answer_to from.now l.terms file p)) from)
    answering_so ready h =
        let a : Answering = answer_to from.now l.terms file p in
        let k : Link = record l { terms = a.terms } in
        let t = on_with (Some k) (p ∷ rest) (with_change a s) in
        let m : Said = said_next t.now k (IsResponse (response_to p.ask a.outcome)) in
        let v : Session = saying k m.message rest t in
        let acts : List Act = map Tell a.events ++ closing a.closes in
        if_keeps (λ (x : Session). Ready from file (performed histories acts x) → LivesSo (performed histories acts x))
        (ltb l.seq s.now.limits.last_seq) v t
        (λ _ ready.
        let q = told_after a v in
        let u = performed histories acts v in
        queued_so v u q (lives_grow from v (m ∷ []) refl refl (λ mid later x number is named.
        only (λ mid y. (number : ℤ) → reference_of s.life.heard y.message ≡ Some number → G (length s.before) (s.life.said ++ mid) y number) m
        (λ number named. subst (λ (l : List Said). G (length s.before) l m number) (sym (append-nil s.life.said))
        (reply_so m u number ready (q.grows.before, (q.news, ap (λ (x : Life). x.said) q.grows.life)) a.outcome refl named)) mid later x is number named) h))
        (λ _ _. queued_so t (performed histories acts t) (told_after a t) h) ready

  -- ---- each event

  abbrev ReadyFor : Event → Session → Session → Type 0
  ReadyFor (Turn file) s t = Ready s file t
  ReadyFor _ s t = ⊤

  abbrev StaySo : Event → Session → List Act → Type 0
  StaySo e s acts = let t = performed histories acts s in ReadyFor e s t → Knows s → LivesSo s → LivesSo t

  turns_so : (file : Option (List ℕ)) → EachTurn file (StaySo (Turn file))
  turns_so file = record {
    nothing = λ s _ _ h. h;
    answers = λ l p rest s _ ready _ h. answering_so l p rest file s ready h;
    tells = λ l p tick s _ _ _ _ h. let t = on (Some l) s in quiet_so (telling t.now p tick) t (telling_owes t.now p tick) h;
  }

  outcome_so : (e : Event) (s : Session) → StaySo e s (outcome_at (histories.see s) s.now.link e).acts
  outcome_so e s = by_event (histories.see s) s.now.link (λ e o. StaySo e s o.acts) (record {
    refuses = λ _ _ _ _ h. h;
    opens = λ _ _. opens_by LivesSo s.now.link s (λ h c. subst (LifeSo c) (sym (none_more (s.before ++ s.life ∷ []) c)) (h c));
    accepts = λ piece _ knows. accepts_by LivesSo s.now.link piece s (λ l _ h c.
        let asks = asks_of (read_on s.now piece).bodies in
        at_last (LifeSo c) s.before s.life (accepting l piece (on (Some l) s)).life c
        (λ _ k earlier later m number is named. k earlier later m number is
        (sym (named_still s.life.heard asks m.message
        (at_place (λ (m : Said). IsKnownIn s.life.heard m.message) s.life.said earlier later m is knows.present)) ∙ named)) (h c));
    turns = λ file. each_turn file (StaySo (Turn file)) (turns_so file) s.now.link s;
    slices = λ _ _ _ h. h;
    holds = λ _ _ h. h;
    takes = λ n _ _ h c. at_last (LifeSo c) s.before s.life (performed_on (Take n) s).life c (λ _ k. k) (h c);
    drops = λ _ _ _ _ h. h;
  }) e

  beats_so : (n i : ℕ) (s : Session) → Both Knows knows s → LivesSo s → LivesSo (beats histories n i s).state
  beats_so n i s k h =
      (by_beats (λ (t : Session). Both Knows knows t × LivesSo t) (λ t more x. (
        beat_keeps Knows knows t more x.0,
        quiet_so (beat (histories.see t) more).acts t (beat_owes t.now.debuggee.program (histories.see t) more) x.1,
      )) n i s (k, h)).1

  event_keeps : (e : Event) (s : Session) → ReadyFor e s (Effect s e) → Both Knows knows s → LivesSo s → LivesSo (Effect s e)
  event_keeps (Slice n) s ready k h = beats_so n (enough n) s k h
  event_keeps e s ready k h = outcome_so e s ready k.0 h

  abbrev ReadyBy : Session → Happened → Type 0
  ReadyBy s (Whole e) = ReadyFor e s (Effect s e)
  ReadyBy s (Cut n count) = ⊤

  each_keeps : (x : Happened) (s : Session) → ReadyBy s x → Both Knows knows s → LivesSo s → LivesSo (leaves s x)
  each_keeps (Whole e) s ready k h = event_keeps e s ready k h
  each_keeps (Cut n count) s ready k h = beats_so n count s k h

-- ---- all that happened

module _ (from : Beginning) (all : List Happened) where
  -- a message was queued by a turn among all that happened
  abbrev Good : ℕ → List Said → Said → ℤ → Type 0
  Good c earlier m number = WasGood from all c earlier m number

  abbrev SoAfter : List Happened → Type 0
  SoAfter events = LivesSo Good (Reached from events)

  -- what a turn queued on the present connection is in its life
  queued_there : (events : List Happened) (file : Option (List ℕ)) (m : Said) → (let s = Reached from events in
      Queues s m (Effect s (Turn file))
      → IsPrefixOf (s.life.said ++ m ∷ []) (life_of (length s.before) (Reached from (events ++ Whole (Turn file) ∷ []))).said)
  queued_there events file m q =
      let s = Reached from events in
      let t = Effect s (Turn file) in
      let there : life_of (length s.before) t ≡ t.life =
      ap (λ (b : List Life). get_or (t.before ++ t.life ∷ []) (length b) no_life) (sym q.0) ∙ get_or_push t.before t.life no_life (length t.before) refl in
      rw (led_append events (Whole (Turn file) ∷ []) (start from))
      (subst (λ (life : Life). IsPrefixOf (s.life.said ++ m ∷ []) life.said) (sym there) q.1)

  knows_then : (events : List Happened) → Both Knows knows (Reached from events)
  knows_then events = both_reached Knows knows from (knows_at_first from) events

  ready_now : (before rest : List Happened) (e : Event) → before ++ Whole e ∷ rest ≡ all
      → (let s = Reached from before in ReadyFor Good e s (Effect s e))
  ready_now before rest (Turn file) turn =
      let s = Reached from before in
      record {
        waits = (knows_then before).0.asks;
        good =
            λ l r fate number body m is named e queues. record {
              before = before;
              file = file;
              rest = rest;
              turn = turn;
              connection = sym (all_counted from before);
              lasts = ap is_some is;
              said = ap (λ (life : Life). life.said) (get_or_push s.before s.life no_life (length s.before) refl);
              queued = queued_there before file m queues;
              good = (references_last from before l file r fate number is named).good body e;
            };
      }
  ready_now before rest _ turn = tt

  so_and_these : (before rest : List Happened) → before ++ rest ≡ all → SoAfter before → SoAfter all
  so_and_these before [] is h = subst SoAfter (sym (append-nil before) ∙ is) h
  so_and_these before (x ∷ rest) is h =
      so_and_these (before ++ x ∷ []) rest (append_assoc before (x ∷ []) rest ∙ is)
      (subst (LivesSo Good) (sym (led_append before (x ∷ []) (start from)))
      (each_keeps Good x (Reached from before) (by x is) (knows_then before) h)) where
        by : (x : Happened) → before ++ x ∷ rest ≡ all → ReadyBy Good (Reached from before) x
        by (Whole e) is = ready_now before rest e is
        by (Cut n count) is = tt

  so_at_first : SoAfter []
  so_at_first c =
      subst (LifeSo Good c) (sym (none_more [] c)) (λ earlier later m number is named. no_place earlier later m is)

pub references_were_good : (from : Beginning) (events : List Happened) → ReferencesWereGood from events
references_were_good from events c earlier later m number is named =
    so_and_these from events [] events refl (so_at_first from events) c earlier later m number is named
