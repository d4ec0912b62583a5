-- The messages that are queued from one time to another, and what can be seen at the end.
--
-- What could be seen when a message was queued can still be seen at the end, with one exception: what the program
-- printed, and what its logpoints say, was told while it ran, and it may have stopped since.
use Rattle.session_laws.proofs.Headline.Common.{[], Act, All, All-head, All-nil, All-push, All-tail, All-weaker, ap, append-nil, append_assoc, arith, as_running, Become, becomes, Bool, Event, false, histories, if_keeps, is_active, is_running, is_some, IsEvent, IsFollowed, Life, Link, List, ltb, map, Message, None, Now, Numbers, on, Option, Output, output_events, Pending, performed, performed_on, Program, refl, Said, said_next, said_on, says_output, seen_at, seen_now, Session, shown_of, Sight, sight, sight_by, Snapshot, snapshot_of, Some, subst, sym, Tell, tells, true, ℕ, ℤ, ◌++◌, ◌∙◌, ◌∷◌, ◌≡◌}
use Rattle.session_laws.proofs.Headline.Owing.{Plain}
use Rattle.session_laws.proofs.Headline.Leading.{by_output, running_state}

-- these messages were queued between two times, and nothing else happened to the lives
pub record Grows (s t : Session) (news : List Said) : Type 0 where
  pub life : t.life ≡ record s.life { said = s.life.said ++ news }
  pub before : t.before ≡ s.before
  pub connections : t.now.connections ≡ s.now.connections
  pub linked : is_some t.now.link ≡ is_some s.now.link
  pub silent : is_some s.now.link ≡ false → news ≡ []

-- some were, and this is so of each, by what could be seen then
pub record Queued (R : Message → Snapshot → Type 0) (s t : Session) : Type 0 where
  pub news : List Said
  pub grows : Grows s t news
  pub all : All (λ (m : Said). R m.message m.snapshot) news

-- what could be seen is this, at last
abbrev pub FitsTo : Sight → Message → Snapshot → Type 0
FitsTo f m seen = sight seen ≡ seen_at (says_output m) f

-- and it is what the program printed, or what its logpoints say
abbrev pub PrintsTo : Sight → Message → Snapshot → Type 0
PrintsTo f m seen = (says_output m ≡ true) × (sight seen ≡ as_running f)

-- all that was queued is such
abbrev pub Printed : Session → Session → Type 0
Printed s t = Queued (PrintsTo (seen_now t)) s t

pub followed : (s t : Session) → Queued (FitsTo (seen_now t)) s t → IsFollowed s t
followed s t q = record { news = q.news; newly = assumption }

pub weaker : (Q R : Message → Snapshot → Type 0) (s t : Session) → ((m : Message) (seen : Snapshot) → Q m seen → R m seen) → Queued Q s t
    → Queued R s t
weaker Q R s t f q =
    let all = All-weaker (λ (m : Said). Q m.message m.snapshot) (λ (m : Said). R m.message m.snapshot)
    (λ m. f m.message m.snapshot) q.news q.all in
    record { news = q.news; grows = q.grows; all = all }

pub printed_fits : (s t : Session) (f : Sight) → as_running (seen_now t) ≡ as_running f → Printed s t → Queued (FitsTo f) s t
printed_fits s t f same =
    weaker (PrintsTo (seen_now t)) (FitsTo f) s t (λ m seen h. h.1 ∙ same ∙ ap (λ (b : Bool). seen_at b f) (sym h.0))

pub printed_still : (s t : Session) (f : Sight) → as_running (seen_now t) ≡ as_running f → Printed s t → Queued (PrintsTo f) s t
printed_still s t f same = weaker (PrintsTo (seen_now t)) (PrintsTo f) s t (λ m seen h. (h.0, h.1 ∙ same))

pub nothing_queued : (R : Message → Snapshot → Type 0) (s : Session) → Queued R s s
nothing_queued R s = record {
  news = [];
  grows = assumption (ap (λ (l : List Said). record s.life { said = l }) (sym (append-nil s.life.said)));
  all = All-nil (λ (m : Said). R m.message m.snapshot);
}

-- what happens on a connection but for messages
pub queued_as : (R : Message → Snapshot → Type 0) (s t u : Session) → u.life ≡ t.life → u.before ≡ t.before
    → u.now.connections ≡ t.now.connections → is_some u.now.link ≡ is_some t.now.link → Queued R s t → Queued R s u
queued_as R s t u life before connections linked q =
    let g = q.grows in
    let there : Grows s u q.news =
    assumption (life ∙ g.life, before ∙ g.before, connections ∙ g.connections, linked ∙ g.linked) in
    record { news = q.news; grows = there; all = q.all }

-- ---- acts that make or tell something of the program

-- a message is queued
pub said_queued : (R : Message → Snapshot → Type 0) (s : Session) (l : Option Link) (m : Message) (rest : List Pending) (t : Session)
    → R m (snapshot_of t.now) → Queued R s (on l t) → Queued R s (said_on l m rest (on l t))
said_queued R s None m rest t so q = q
said_queued R s (Some l) m rest t so q =
    let new : Said = said_next t.now l m in
    let g = q.grows in
    if_keeps (Queued R s) (ltb l.seq t.now.limits.last_seq) _ _
    (λ _. record {
      news = q.news ++ new ∷ [];
      grows = record {
        life =
            ap (λ (x : Life). record x { said = x.said ++ new ∷ [] }) g.life
            ∙ ap (λ (x : List Said). record s.life { said = x }) (append_assoc s.life.said q.news (new ∷ []));
        before = g.before;
        connections = g.connections;
        linked = g.linked;
        silent = λ none. absurd (let no : true ≡ false = g.linked ∙ none in cc);
      };
      all = All-push (λ (m : Said). R m.message m.snapshot) q.news new q.all so;
    })
    (λ _. q)

pub said_snapshot : (l : Option Link) (m : Message) (rest : List Pending) (t : Session)
    → snapshot_of (said_on l m rest (on l t)).now ≡ snapshot_of t.now
said_snapshot l m rest t = grind arith

-- what such acts tell is so by what can be seen then, and so is in the end what can be seen
unfoldable pub Shows : (Message → Snapshot → Type 0) → (Snapshot → Type 0) → Snapshot → List Act → Type 0
Shows R E seen [] = E seen
Shows R E seen (Become d ∷ acts) = Shows R E (record seen { debuggee = d }) acts
Shows R E seen (Tell e ∷ acts) = R (IsEvent e) seen × Shows R E seen acts
Shows R E seen (act ∷ acts) = ⊥

pub acts_queued : (R : Message → Snapshot → Type 0) (E : Snapshot → Type 0) (acts : List Act) (s t : Session)
    → Shows R E (snapshot_of t.now) acts → Queued R s t
    → (let u = performed histories acts t in Queued R s u × E (snapshot_of u.now))
unfolding Shows
acts_queued R E [] s t h q = (q, h)
acts_queued R E (Become d ∷ acts) s t h q =
    let u = performed_on (Become d) t in acts_queued R E acts s u h (queued_as R s t u refl refl refl refl q)
acts_queued R E (Tell e ∷ acts) s t h q =
    let pending = t.now.arrivals.pending in
    acts_queued R E acts s (performed_on (Tell e) t)
    (subst (λ (seen : Snapshot). Shows R E seen acts) (sym (said_snapshot t.now.link (IsEvent e) pending t)) h.1)
    (said_queued R s t.now.link (IsEvent e) pending t h.0 q)
acts_queued R E (act ∷ acts) s t h q = absurd h

-- in the end this can be seen
abbrev pub EndsAt : Sight → Snapshot → Type 0
EndsAt f seen = sight seen ≡ f

pub ends_seen : (R : Sight → Message → Snapshot → Type 0) (f : Sight) (s t : Session) → Queued (R f) s t × EndsAt f (snapshot_of t.now)
    → Queued (R (seen_now t)) s t
ends_seen R f s t h = subst (λ (x : Sight). Queued (R x) s t) (sym h.1) h.0

pub acts_seen : (R : Sight → Message → Snapshot → Type 0) (f : Sight) (acts : List Act) (s t : Session)
    → Shows (R f) (EndsAt f) (snapshot_of t.now) acts → Queued (R f) s t
    → (let u = performed histories acts t in Queued (R (seen_now u)) s u)
acts_seen R f acts s t h q = ends_seen R f s (performed histories acts t) (acts_queued (R f) (EndsAt f) acts s t h q)

-- ---- what is told

-- events that are no output are told at the end
pub plain_show : (f : Sight) (events : List Event) (seen : Snapshot) → EndsAt f seen → All Plain events
    → Shows (FitsTo f) (EndsAt f) seen (map Tell events)
unfolding Shows
plain_show f [] seen is plain = is
plain_show f (e ∷ es) seen is plain =
    (is ∙ ap (λ (b : Bool). seen_at b f) (sym (All-head Plain e es plain)), plain_show f es seen is (All-tail Plain e es plain))

-- a program becomes this, and then such events are told
pub becomes_show : (seen : Snapshot) (now : Now) (q : Program) (events : List Event) → All Plain events
    → (let f = sight_by (Some q) seen.numbers in Shows (FitsTo f) (EndsAt f) seen (becomes now q ∷ tells now events))
unfolding Shows
becomes_show seen now q events plain =
    let f = sight_by (Some q) seen.numbers in
    let then : Snapshot = record seen { debuggee = record now.debuggee { program = Some q } } in
    if_keeps (Shows (FitsTo f) (EndsAt f) then) (is_active now.link) _ [] (λ _. plain_show f events then refl plain) (λ _. refl)

-- output is told while it runs
pub runs_seen : (p : Program) (numbers : Numbers) → is_running p.run ≡ true → sight_by (Some p) numbers ≡ as_running (sight_by (Some p) numbers)
runs_seen p numbers e =
    let is = running_state p.run e in λ i. record (sight_by (Some p) numbers) { facts = record (shown_of p numbers) { run = is i } }

pub output_shows : (R : Message → Snapshot → Type 0) (E : Snapshot → Type 0) (seen : Snapshot) (now : Now) (printed : Option ℤ) (texts : List (List ℕ)) (acts : List Act)
    → ((body : _) → R (IsEvent (Output body)) seen) → Shows R E seen acts → Shows R E seen (tells now (output_events printed texts) ++ acts)
unfolding Shows
output_shows R E seen now printed texts acts each rest =
    if_keeps (λ (x : List Act). Shows R E seen (x ++ acts)) (is_active now.link) _ []
    (λ _. by_output (λ (es : List Event). Shows R E seen (map Tell es ++ acts)) rest (λ body es more. (each body, more)) printed texts) (λ _. rest)
