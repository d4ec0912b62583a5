-- What is kept where an act does something is kept by acts.
use Rattle.session_laws.proofs.Common.{[], Accept, accepted_on, accepting, Agree, agreed_on, Answering, Become, Bool, Call, Close, closing, Debuggee, Event as IsEvent, false, HangUp, histories, hung_on, if_keeps, KeptByActs, Link, List, ltb, ltb-true, map, Message, None, Open, opened_on, Option, past_referred, Pending, performed, performed_append, performed_on, Refer, referred_on, refers, Replied as Outcome, replied_on, Reply, Response, response_to, said_on, saying, Session, Some, Take, Tell, Terms, Told as Event, true, ℕ, ◌++◌, ◌<◌, ◌∷◌, ◌≡◌}

-- a session once an answer's change is made and its references are issued, before it is queued
abbrev pub with_change : Answering → Session → Session
with_change a s = record s {
  now = refers (record s.now { debuggee = a.debuggee }) a.references;
  references = past_referred s.now.connections a.references s.references;
}

-- a session on that connection, on which these requests wait
abbrev pub on : Option Link → Session → Session
on l s = record s { now = record s.now { link = l } }

abbrev pub on_with : Option Link → List Pending → Session → Session
on_with l pending s = record s { now = record s.now { link = l; arrivals = record s.now.arrivals { pending = pending } } }

-- What keeps P act by act, but for answers: what each act does where it does something.
pub record KeptByOthers (P : Session → Type 0) : Type 0 where
  pub opens : (s : Session) → P (on None s) → P (performed_on Open (on None s))
  pub closes : (s : Session) → P s → P (performed_on Close s)
  pub accepts : (l : Link) (piece : List ℕ) (s : Session) → l.is_closing ≡ false → P (on (Some l) s) → P (accepting l piece (on (Some l) s))
  pub agrees : (l : Link) (terms : Terms) (s : Session) → P (on (Some l) s) → P (performed_on (Agree terms) (on (Some l) s))
  pub refers : (l : Link) (call : Option Call) (s : Session) → P (on (Some l) s) → P (performed_on (Refer call) (on (Some l) s))
  pub becomes : (d : Debuggee) (s : Session) → P s → P (performed_on (Become d) s)
  pub tells : (l : Link) (event : Event) (s : Session) → l.seq < s.now.limits.last_seq → P (on (Some l) s)
      → P (saying l (IsEvent event) s.now.arrivals.pending (on (Some l) s))
  pub hangs : (l : Link) (s : Session) → P (on (Some l) s) → P (performed_on HangUp (on (Some l) s))
  pub takes : (n : ℕ) (s : Session) → P s → P (performed_on (Take n) s)

-- and for answers
abbrev pub KeptByAnswers : (Session → Type 0) → Type 0
KeptByAnswers P =
    (l : Link) (p : Pending) (rest : List Pending) (outcome : Outcome) (s : Session) → l.seq < s.now.limits.last_seq → P
    (on_with (Some l) (p ∷ rest) s) → P (saying l (Response (response_to p.ask outcome)) rest (on_with (Some l) (p ∷ rest) s))

-- What is kept where such an act does something is kept by it: it does nothing where there is a connection already, or none.
module _ (P : Session → Type 0) where
  pub opens_by : (l : Option Link) (s : Session) → (P (on None s) → P (performed_on Open (on None s))) → P (on l s)
      → P (opened_on l (on l s))
  opens_by None s f h = f h
  opens_by (Some l) s f h = h

  pub accepts_by : (l : Option Link) (piece : List ℕ) (s : Session)
      → ((k : Link) → k.is_closing ≡ false → P (on (Some k) s) → P (accepting k piece (on (Some k) s))) → P (on l s)
      → P (accepted_on l piece (on l s))
  accepts_by None piece s f h = h
  accepts_by (Some l) piece s f h = if_keeps P l.is_closing _ _ (λ _. h) (λ e. f l e h)

  pub said_by : (l : Option Link) (m : Message) (rest : List Pending) (s : Session)
      → ((k : Link) → k.seq < s.now.limits.last_seq → P (on (Some k) s) → P (saying k m rest (on (Some k) s))) → P (on l s)
      → P (said_on l m rest (on l s))
  said_by None m rest s f h = h
  said_by (Some l) m rest s f h =
      if_keeps P (ltb l.seq s.now.limits.last_seq) _ _ (λ e. f l (ltb-true l.seq s.now.limits.last_seq e) h) (λ _. h)

  pub agrees_by : (l : Option Link) (terms : Terms) (s : Session)
      → ((k : Link) → P (on (Some k) s) → P (performed_on (Agree terms) (on (Some k) s))) → P (on l s) → P (agreed_on l terms (on l s))
  agrees_by None terms s f h = h
  agrees_by (Some l) terms s f h = f l h

  pub refers_by : (l : Option Link) (call : Option Call) (s : Session)
      → ((k : Link) → P (on (Some k) s) → P (performed_on (Refer call) (on (Some k) s))) → P (on l s) → P (referred_on l call (on l s))
  refers_by None call s f h = h
  refers_by (Some l) call s f h = f l h

  pub hangs_by : (l : Option Link) (s : Session) → ((k : Link) → P (on (Some k) s) → P (performed_on HangUp (on (Some k) s))) → P (on l s)
      → P (hung_on l (on l s))
  hangs_by None s f h = h
  hangs_by (Some l) s f h = f l h

-- what is kept where the connection takes nothing more is so after an answer, if it is so once all is told
pub after_answer : (P : Session → Type 0) → ((l : Link) (s : Session) → P (on (Some l) s) → P (performed_on HangUp (on (Some l) s)))
    → (events : List Event) (closes : Bool) (s : Session) → P (performed histories (map Tell events) s)
    → P (performed histories (map Tell events ++ closing closes) s)
after_answer P hangs events closes s h =
    let t = performed histories (map Tell events) s in
    rw (performed_append (map Tell events) (closing closes) s)
    (elim closes as (λ closes. P (performed histories (closing closes) t))
    [ true ↦ hangs_by P t.now.link t (λ l x. hangs l t x) h | false ↦ h ])

module _ (P : Session → Type 0) (k : KeptByOthers P) (says : KeptByAnswers P) where
  replies_by : (l : Option Link) (pending : List Pending) (outcome : Outcome) (s : Session) → P (on_with l pending s)
      → P (replied_on pending outcome (on_with l pending s))
  replies_by l [] outcome s h = h
  replies_by l (p ∷ rest) outcome s h =
      said_by P l (Response (response_to p.ask outcome)) rest (on_with l (p ∷ rest) s) (λ m few x. says m p rest outcome s few x) h

  pub by_forms : KeptByActs P
  by_forms Open s h = opens_by P s.now.link s (k.opens s) h
  by_forms Close s h = k.closes s h
  by_forms (Accept piece) s h = accepts_by P s.now.link piece s (λ l e x. k.accepts l piece s e x) h
  by_forms (Agree terms) s h = agrees_by P s.now.link terms s (λ l x. k.agrees l terms s x) h
  by_forms (Refer call) s h = refers_by P s.now.link call s (λ l x. k.refers l call s x) h
  by_forms (Become d) s h = k.becomes d s h
  by_forms (Tell event) s h = said_by P s.now.link (IsEvent event) s.now.arrivals.pending s (λ l few x. k.tells l event s few x) h
  by_forms (Reply outcome) s h = replies_by s.now.link s.now.arrivals.pending outcome s h
  by_forms HangUp s h = hangs_by P s.now.link s (λ l x. k.hangs l s x) h
  by_forms (Take n) s h = k.takes n s h
