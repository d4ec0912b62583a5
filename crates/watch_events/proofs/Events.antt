-- What is kept while events are done stays so: of each event.
use Rattle.watch_events.proofs.Common.{[], Accept, Answer, ap, arith, Bool, bytes_of, cond, Effect, eqb, Err, Event, false, get_or, histories, IsReached, Kept, last_seen, leb, length, Life, life_of, List, lives, ltb, nat_tests, no_life, None, Ok, Open, Option, option_map, refl, Result, Said, Session, sight, Some, Stands, start, subst, suc, sym, told_within, Tracked, Tracks, true, up_to_fault, with_piece, zero, ℕ, ◌++◌, ◌+◌, ◌∙◌, ◌∷◌, ◌≡◌}
use Rattle.session_laws.proofs.ByForms.{on}
use Rattle.session.proofs.Reaching.{if_keeps, led_append}
use Rattle.session.specs.Reached.{Whole}
use Rattle.session_laws.proofs.Reading.{up_to_fault-append}
use Rattle.session_laws.proofs.Refusing.{refused_changes_nothing}
use Rattle.session.specs.Effects.{after_all, performed}
use Rattle.session.specs.Outcomes.{Outcome, done, outcome_at, refused}
use Rattle.session.specs.declared.event.Applied.{Applied}
use Rattle.session.specs.declared.event.Applied.TheVariants as applied
use Rattle.session.specs.declared.event.Event.TheVariants.{Connect, Recv, Hold, Sent, DropConnection}
use Rattle.session.specs.declared.event.EventError.{EventError}
use Rattle.session.specs.declared.event.EventError.TheVariants as error
use Rattle.session.specs.declared.link.Link.{Link}
use Rattle.session.specs.declared.state.TheConstants.{LAST_CONNECTION, MOST_PENDING, MOST_PIECE}
use Rattle.watch_events.proofs.Tracking.{others_same, ours, seen_place, with_session}

-- ---- an event more

pub after_more : (events : List Event) (e : Event) (s : Session)
    → after_all histories (events ++ e ∷ []) s ≡ Effect (after_all histories events s) e
after_more [] e s = refl
after_more (x ∷ events) e s = after_more events e (Effect s x)

pub reached_next : (s : Session) (e : Event) → IsReached s → IsReached (Effect s e)
reached_next s e r =
    record {
      from = r.from;
      path = r.path;
      happened = r.happened ++ Whole e ∷ [];
      is = ap (λ (x : Session). Effect x e) r.is ∙ sym (led_append r.happened (Whole e ∷ []) (start r.from));
    }

-- ---- an event that leaves what was said and what came

record SameLives (s t : Session) : Type 0 where
  before : t.before ≡ s.before
  said : t.life.said ≡ s.life.said
  accepted : t.life.accepted ≡ s.life.accepted
  connections : t.now.connections ≡ s.now.connections

record SameLife (x y : Life) : Type 0 where
  said : y.said ≡ x.said
  accepted : y.accepted ≡ x.accepted

itself : (x y : Life) → y ≡ x → SameLife x y
itself x y e = record { said = ap (λ (l : Life). l.said) e; accepted = ap (λ (l : Life). l.accepted) e }

same_life_of : (s t : Session) (c : ℕ) → IsReached s → IsReached t → SameLives s t → SameLife (life_of c s) (life_of c t)
same_life_of s t c rs rt h = by (eqb c s.now.connections) refl where
  by : (b : Bool) → eqb c s.now.connections ≡ b → SameLife (life_of c s) (life_of c t)
  by true e =
      let is : c ≡ s.now.connections = grind (arith, nat_tests) in
      let x = ours s c rs is in
      let y = ours t c rt (is ∙ sym h.connections) in
      record {
        said = ap (λ (l : Life). l.said) y ∙ h.said ∙ sym (ap (λ (l : Life). l.said) x);
        accepted = ap (λ (l : Life). l.accepted) y ∙ h.accepted ∙ sym (ap (λ (l : Life). l.accepted) x);
      }
  by false e =
      let other : c ≡ s.now.connections → ⊥ = λ is.
      (let no : true ≡ false = (let test : eqb c s.now.connections ≡ true = grind (arith, nat_tests, is) in sym test ∙ e) in cc) in
      itself (life_of c s) (life_of c t) (others_same s t c rs h.before other)

-- what was said has the same bytes
same_bytes : (x y : Life) → SameLife x y → bytes_of y ≡ bytes_of x
same_bytes x y h = ap (λ (said : List Said). bytes_of (record no_life { said = said })) h.said

same_keeps : (old : Tracked) (k : Kept) (s t : Session) → SameLife (life_of old.connection s) (life_of old.connection t)
    → t.now.connections ≡ s.now.connections → Tracks old s → Stands k t → Tracks (with_session old k) t
same_keeps old k s t same connections h stands = record {
  stands = stands;
  current = h.current ∙ sym connections;
  accepted = same.accepted ∙ h.accepted;
  queued = h.queued ∙ sym (same_bytes (life_of old.connection s) (life_of old.connection t) same);
  snapshot = h.snapshot ∙ ap (λ (said : List Said). option_map sight (last_seen None (told_within old.count said))) (sym same.said);
}

-- ---- what is refused

pub refused_keeps : (old : Tracked) (k : Kept) (s : Session) (e : Event) (why : EventError) → Answer s e ≡ Err why → Stands k (Effect s e)
    → Tracks old s → Tracks (with_session old k) (Effect s e)
refused_keeps old k s e why is stands h =
    let same = refused_changes_nothing s e why is in
    let here : Tracks (with_session old k) s = record {
      stands = subst (Stands k) same stands;
      current = h.current;
      accepted = h.accepted;
      queued = h.queued;
      snapshot = h.snapshot;
    } in
    subst (Tracks (with_session old k)) (sym same) here

-- ---- the quiet events

hold_same : (l : Option Link) (s : Session)
    → SameLives (on l s) (performed histories (outcome_at (histories.see (on l s)) l Hold).acts (on l s))
hold_same None s = record { before = refl; said = refl; accepted = refl; connections = refl }
hold_same (Some l) s = record { before = refl; said = refl; accepted = refl; connections = refl }

pub hold_keeps : (old : Tracked) (k : Kept) (s : Session) → IsReached s → Stands k (Effect s Hold) → Tracks old s
    → Tracks (with_session old k) (Effect s Hold)
hold_keeps old k s r stands h =
    let same = hold_same s.now.link s in
    same_keeps old k s (Effect s Hold)
    (same_life_of s (Effect s Hold) old.connection r (reached_next s Hold r) same) same.connections h stands

sent_same : (l : Option Link) (n : ℕ) (s : Session)
    → SameLives (on l s) (performed histories (outcome_at (histories.see (on l s)) l (Sent n)).acts (on l s))
sent_same None n s = record { before = refl; said = refl; accepted = refl; connections = refl }
sent_same (Some l) n s =
    if_keeps (λ (o : Outcome). SameLives (on (Some l) s) (performed histories o.acts (on (Some l) s)))
    (ltb (length (on (Some l) s).waiting) n) _ _
    (λ _. record { before = refl; said = refl; accepted = refl; connections = refl })
    (λ _. record { before = refl; said = refl; accepted = refl; connections = refl })

pub sent_keeps : (old : Tracked) (k : Kept) (s : Session) (n : ℕ) → IsReached s → Stands k (Effect s (Sent n)) → Tracks old s
    → Tracks (with_session old k) (Effect s (Sent n))
sent_keeps old k s n r stands h =
    let same = sent_same s.now.link n s in
    same_keeps old k s (Effect s (Sent n))
    (same_life_of s (Effect s (Sent n)) old.connection r (reached_next s (Sent n) r) same) same.connections h stands

drop_same : (l : Option Link) (s : Session)
    → SameLives (on l s) (performed histories (outcome_at (histories.see (on l s)) l DropConnection).acts (on l s))
drop_same None s = record { before = refl; said = refl; accepted = refl; connections = refl }
drop_same (Some l) s = record { before = refl; said = refl; accepted = refl; connections = refl }

pub drop_keeps : (old : Tracked) (k : Kept) (s : Session) → IsReached s → Stands k (Effect s DropConnection) → Tracks old s
    → Tracks (with_session old k) (Effect s DropConnection)
drop_keeps old k s r stands h =
    let same = drop_same s.now.link s in
    same_keeps old k s (Effect s DropConnection)
    (same_life_of s (Effect s DropConnection) old.connection r (reached_next s DropConnection r) same) same.connections h stands

-- ---- a connection is made

get_or_default : (xs : List Life) (d : Life) (c : ℕ) → get_or (xs ++ d ∷ []) c d ≡ get_or xs c d
get_or_default [] d zero = refl
get_or_default [] d (suc c) = refl
get_or_default (x ∷ xs) d zero = refl
get_or_default (x ∷ xs) d (suc c) = get_or_default xs d c

record Opened (s t : Session) (number : ℕ) : Type 0 where
  before : t.before ≡ lives s
  life : t.life ≡ no_life
  connections : t.now.connections ≡ number

opened_by : (l : Option Link) (s : Session) (number : ℕ)
    → (outcome_at (histories.see (on l s)) l Connect).answer ≡ Ok (applied.Connect number)
    → Opened (on l s) (performed histories (outcome_at (histories.see (on l s)) l Connect).acts (on l s)) number
opened_by (Some l) s number e =
    absurd (let no : (let r : Result Applied EventError = Err error.AlreadyConnected in r) ≡ Ok (applied.Connect number) = e in cc)
opened_by None s number e = by (eqb s.now.connections LAST_CONNECTION) e where
  by : (b : Bool)
      → (cond b (refused error.Spent) (done (applied.Connect (s.now.connections + 1)) (Open ∷ []))).answer ≡ Ok (applied.Connect number)
      → Opened (on None s) (performed histories (cond b (refused error.Spent) (done (applied.Connect (s.now.connections + 1)) (Open ∷ []))).acts (on None s)) number
  by true e = absurd (let no : (let r : Result Applied EventError = Err error.Spent in r) ≡ Ok (applied.Connect number) = e in cc)
  by false e = record { before = refl; life = refl; connections = (let same : s.now.connections + 1 ≡ number = cc in same) }

pub connect_keeps : (old : Tracked) (k : Kept) (s : Session) (number : ℕ) → Answer s Connect ≡ Ok (applied.Connect number)
    → Stands k (Effect s Connect) → Tracks old s
    → Tracks (record old { session = k; current = number }) (Effect s Connect)
connect_keeps old k s number is stands h =
    let t = Effect s Connect in
    let opened = opened_by s.now.link s number is in
    let life : life_of old.connection t ≡ life_of old.connection s =
    ap (λ (l : List Life). get_or (l ++ t.life ∷ []) old.connection no_life) opened.before
    ∙ ap (λ (x : Life). get_or (lives s ++ x ∷ []) old.connection no_life) opened.life ∙ get_or_default (lives s) no_life old.connection in
    record {
      stands = stands;
      current = sym opened.connections;
      accepted = ap (λ (l : Life). l.accepted) life ∙ h.accepted;
      queued = h.queued ∙ sym (ap bytes_of life);
      snapshot = h.snapshot ∙ seen_place old.count old.count (life_of old.connection s) (life_of old.connection t) refl life;
    }

-- ---- a piece is taken

record Accepted (s t : Session) (piece : List ℕ) : Type 0 where
  before : t.before ≡ s.before
  said : t.life.said ≡ s.life.said
  accepted : t.life.accepted ≡ up_to_fault s.life.accepted piece
  connections : t.now.connections ≡ s.now.connections

accepted_by : (l : Option Link) (piece : List ℕ) (s : Session)
    → (outcome_at (histories.see (on l s)) l (Recv piece)).answer ≡ Ok applied.Recv
    → Accepted (on l s) (performed histories (outcome_at (histories.see (on l s)) l (Recv piece)).acts (on l s)) piece
accepted_by None piece s e = absurd (let no : (let r : Result Applied EventError = Err error.NotConnected in r) ≡ Ok applied.Recv = e in cc)
accepted_by (Some l) piece s e =
    by l.is_closing refl (ltb MOST_PIECE (length piece)) (leb MOST_PENDING (length s.now.arrivals.pending)) e where
      t : Session
      t = on (Some l) s

      O : Bool → Bool → Bool → Outcome
      O a b c =
          cond a (refused error.Closing)
          (cond b (refused error.PieceTooLong) (cond c (refused error.Busy) (done applied.Recv (Accept piece ∷ []))))

      by : (a : Bool) → l.is_closing ≡ a → (b c : Bool) → (O a b c).answer ≡ Ok applied.Recv
          → Accepted t (performed histories (O a b c).acts t) piece
      by true closing b c e = absurd (let no : (let r : Result Applied EventError = Err error.Closing in r) ≡ Ok applied.Recv = e in cc)
      by false closing true c e =
          absurd (let no : (let r : Result Applied EventError = Err error.PieceTooLong in r) ≡ Ok applied.Recv = e in cc)
      by false closing false true e =
          absurd (let no : (let r : Result Applied EventError = Err error.Busy in r) ≡ Ok applied.Recv = e in cc)
      by false closing false false e =
          if_keeps (λ (x : Session). Accepted t x piece) l.is_closing t _ (λ is. absurd (let no : true ≡ false = sym is ∙ closing in cc))
          (λ _. record { before = refl; said = refl; accepted = refl; connections = refl })

pub recv_keeps : (old : Tracked) (k : Kept) (s : Session) (piece : List ℕ) → IsReached s → Answer s (Recv piece) ≡ Ok applied.Recv
    → Stands k (Effect s (Recv piece)) → Tracks old s
    → Tracks (with_piece (eqb old.current old.connection) piece (with_session old k)) (Effect s (Recv piece))
recv_keeps old k s piece r is stands h = by (eqb old.current old.connection) refl where
  t : Session
  t = Effect s (Recv piece)

  by : (b : Bool) → eqb old.current old.connection ≡ b → Tracks (with_piece b piece (with_session old k)) t
  by true e =
      let c = accepted_by s.now.link piece s is in
      let same : old.connection ≡ s.now.connections =
      (let x : old.current ≡ old.connection = grind (arith, nat_tests) in sym x ∙ h.current) in
      let x = ours s old.connection r same in
      let y = ours t old.connection (reached_next s (Recv piece) r) (same ∙ sym c.connections) in
      let said : (life_of old.connection t).said ≡ (life_of old.connection s).said = ap (λ (l : Life). l.said) y ∙ c.said ∙ sym
      (ap (λ (l : Life). l.said) x) in
      record {
        stands = stands;
        current = h.current ∙ sym c.connections;
        accepted = ap (λ (l : Life). l.accepted) y ∙ c.accepted ∙ ap (λ (l : Life). up_to_fault l.accepted piece) (sym x)
            ∙ ap (λ (l : List ℕ). up_to_fault l piece) h.accepted ∙ up_to_fault-append [] old.accepted piece;
        queued = h.queued ∙ ap (λ (said : List Said). bytes_of (record no_life { said = said })) (sym said);
        snapshot = h.snapshot ∙ ap (λ (said : List Said). option_map sight (last_seen None (told_within old.count said))) (sym said);
      }
  by false e =
      let c = accepted_by s.now.link piece s is in
      let other : old.connection ≡ s.now.connections → ⊥ = λ same.
      (let x : old.current ≡ old.connection = h.current ∙ sym same in let no : true ≡ false =
      (let test : eqb old.current old.connection ≡ true = grind (arith, nat_tests, x) in sym test ∙ e) in cc) in
      same_keeps old k s t
      (itself (life_of old.connection s) (life_of old.connection t)
      (others_same s t old.connection r c.before other)) c.connections h stands
