-- What an editor knows was so, whatever happens: each message was so when it was queued, and what is known fits.
use Rattle.session_laws.proofs.Headline.Common.{[], accepts_by, Act, after_answer, All, All-head, All-nil, All-push, AnEvent as Event, answer_to, Answering, answering, arith, Ask, asks_of, beat, beat_keeps, beats, Become, Beginning, begins_so, Bool, Both, BoundsIn, Debuggee, each_life, Effect, enough, Event as AnEvent, Facts, false, first_terms, folded, Happened, histories, if_keeps, IsEvent, known_after, left, Life, life_of, Link, List, ltb, ltb-false, ltb-true, map, marked, Message, None, nothing_known, Now, number_of, Numbers, on, on_program, on_with, opens_by, Option, OrderlyIn, outcome_at, outcome_keeps, OwesNothing, Pending, performed, PrintsRunning, Program, Reached, reached, read_on, refl, remembered, replied_on, Response as IsResponse, response_to, said_next, saying, Session, Slice, snapshot_of, Some, subst, sym, Tell, telling, Terms, WhatIsKnownWasSo, with_change, with_said, ℕ, ⊤, ◌<◌, ◌∙◌, ◌∷◌, ◌≡◌}
use Rattle.debuggee.specs.declared.run.Mark.TheVariants as mark
use Rattle.session_laws.proofs.Asked.{IsRead}
use Rattle.session_laws.proofs.Headline.Agreeing.{Agrees, marked_agrees, never, nothing_agrees, nothing_owed, OwesOf, OwesRunning}
use Rattle.session_laws.proofs.Cases.{by_beats, by_event, each_turn, EachTurn}
use Rattle.session_laws.proofs.Headline.Knowing.{Knows, knows, knows_at_first, of_waiting, WaitsFirst}
use Rattle.session_laws.proofs.Headline.Remembering.{all_hold_more, all_hold_same, AllHold, HoldsAfter, known_append, known_same, remembers, within_was_so}
use Rattle.session_laws.proofs.Headline.Owing.{all_tell_owe, AllOwe, beat_owes, marked_owes, owes_after, telling_owes}
use Rattle.session_laws.proofs.Headline.Leading.{AnswerLeads, Leads, Prints, refusal_leads, telling_leads}
use Rattle.session_laws.proofs.Headline.Beating.{program_leads}
use Rattle.session_laws.proofs.Headline.Leaving.{answer_is_mild, commands_lead}

-- ---- what is so of a session

-- what an editor knows on a connection
abbrev pub known : Life → Facts
known life = known_after (remembered life.heard) nothing_known life.said

-- each message was so
abbrev pub Held : Life → Type 0
Held life = AllHold (remembered life.heard) nothing_known life.said

-- what is known fits, as long as there are numbers for messages
abbrev pub AgreesOn : Option Link → ℕ → Option Program → Numbers → Facts → Type 0
AgreesOn None last program numbers f = ⊤
AgreesOn (Some l) last program numbers f = l.seq < last → Agrees f program numbers l.terms

-- what was told was so, whatever is known now
pub record Was (s : Session) : Type 0 where
  pub before : All Held s.before
  pub present : Held s.life
  pub owes : OwesOf s.now.debuggee.program

pub record Faithful (s : Session) : Type 0 where
  pub was : Was s
  pub agrees : AgreesOn s.now.link s.now.limits.last_seq s.now.debuggee.program s.now.numbers (known s.life)

-- ---- a message is queued

saying_was : (l : Link) (m : Message) (rest : List Pending) (s : Session)
    → HoldsAfter (folded (remembered s.life.heard) (known s.life) m) m (snapshot_of s.now) → Was (on (Some l) s)
    → Was (saying l m rest (on (Some l) s))
saying_was l m rest s so h =
    assumption (all_hold_more (remembered s.life.heard) nothing_known s.life.said (said_next s.now l m) h.present so)

knows_more : (s : Session) (l : Link) (m : Message)
    → known (with_said s.life (said_next s.now l m)) ≡ folded (remembered s.life.heard) (known s.life) m
knows_more s l m = known_append (remembered s.life.heard) nothing_known s.life.said (said_next s.now l m ∷ [])

-- ---- quiet acts

abbrev pub LeadsIf : Option Link → Session → List Act → Type 0
LeadsIf None s acts = ⊤
LeadsIf (Some l) s acts = l.seq < s.now.limits.last_seq → Leads l.terms s.now.numbers (known s.life) s.now.debuggee.program acts

too_many : {A : Type 0} (n m : ℕ) → ltb n m ≡ false → n < m → A
too_many n m e less = let most = ltb-false n m e in absurd (omega (arith, most, less))

prints : (e : AnEvent) (d : Debuggee) → Prints e d.program → PrintsRunning (IsEvent e) d
prints e d h = grind arith

ends_so : (l : Option Link) (s : Session) → LeadsIf l s []
    → AgreesOn l s.now.limits.last_seq s.now.debuggee.program s.now.numbers (known s.life)
unfolding Leads
ends_so None s lead = tt
ends_so (Some l) s lead = lead

pub quiet_faithful : (acts : List Act) (l : Option Link) (s : Session) → AllOwe acts → LeadsIf l s acts → Was (on l s)
    → Faithful (performed histories acts (on l s))
unfolding AllOwe Leads
quiet_faithful [] l s o lead h = record { was = h; agrees = ends_so l s lead }
quiet_faithful (Become d ∷ acts) None s o lead h =
    quiet_faithful acts None (record s { now = record s.now { debuggee = d } }) o.1 tt
    (record { before = h.before; present = h.present; owes = o.0 })
quiet_faithful (Become d ∷ acts) (Some l) s o lead h =
    quiet_faithful acts (Some l) (record s { now = record s.now { debuggee = d } }) o.1 lead
    (record { before = h.before; present = h.present; owes = o.0 })
quiet_faithful (Tell e ∷ acts) None s o lead h = quiet_faithful acts None s o tt h
quiet_faithful (Tell e ∷ acts) (Some l) s o lead h =
    let t = saying l (IsEvent e) s.now.arrivals.pending (on (Some l) s) in
    if_keeps (λ (x : Session). Faithful (performed histories acts x)) (ltb l.seq s.now.limits.last_seq) t (on (Some l) s)
    (λ few.
    let so = lead (ltb-true l.seq s.now.limits.last_seq few) in
    quiet_faithful acts t.now.link t o
    (λ _. rw (knows_more s l (IsEvent e)) so.1)
    (saying_was l (IsEvent e) s.now.arrivals.pending s (so.0.0, prints e s.now.debuggee so.0.1) h))
    (λ many. quiet_faithful acts (Some l) s o (λ less. too_many l.seq s.now.limits.last_seq many less) h)
quiet_faithful (act ∷ acts) l s o lead h = absurd o

-- ---- an answer

pub answering_faithful : (l : Link) (p : Pending) (rest : List Pending) (s : Session) (a : Answering) → OwesOf a.debuggee.program
    → (l.seq < s.now.limits.last_seq → AnswerLeads s.now (known s.life) (remembered s.life.heard (number_of p.ask)) a)
    → Was (on_with (Some l) (p ∷ rest) s) → Faithful (performed histories (answering a) (on_with (Some l) (p ∷ rest) s))
answering_faithful l p rest s a owes lead h =
    let k : Link = record l { terms = a.terms } in
    let u = on_with (Some k) (p ∷ rest) (with_change a s) in
    let m : Message = IsResponse (response_to p.ask a.outcome) in
    let v = saying k m rest u in
    let was : Was u = record { before = h.before; present = h.present; owes = owes } in
    let quiet = all_tell_owe a.events in
    after_answer Faithful
    (λ _ _ h. record { was = record { before = h.was.before; present = h.was.present; owes = h.was.owes }; agrees = h.agrees }) a.events a.closes
    (replied_on (p ∷ rest) a.outcome u)
    (if_keeps (λ (x : Session). Faithful (performed histories (map Tell a.events) x)) (ltb l.seq s.now.limits.last_seq) v u
    (λ few.
    let so = lead (ltb-true l.seq s.now.limits.last_seq few) in
    quiet_faithful (map Tell a.events) v.now.link v quiet
    (λ _. rw (knows_more u k m) so.1)
    (saying_was k m rest u (so.0, tt) was))
    (λ many. quiet_faithful (map Tell a.events) (Some k) u quiet (λ less. too_many l.seq s.now.limits.last_seq many less) was))

-- ---- an answer

answer_so : (now : Now) (terms : Terms) (file : Option (List ℕ)) (p : Pending) (asks : List Ask) (f : Facts) → WaitsFirst asks p
    → IsRead p.ask → OrderlyIn now.debuggee → BoundsIn now → OwesNothing now.debuggee.program
    → Agrees f now.debuggee.program now.numbers terms
    → AnswerLeads now f (remembered asks (number_of p.ask)) (answer_to now terms file p)
answer_so now terms file p asks f first read orderly bounds nothing h =
    of_waiting (λ ask a. IsRead ask → AnswerLeads now f (remembered asks (number_of ask)) a) asks now terms file p first
    (λ refusal _. refusal_leads now terms f _ refusal None h)
    (λ r first taken meets read. rw (remembers asks r.seq r first) (commands_lead now terms file r.command f
    (record { taken = taken; meets = meets; orderly = orderly; bounds = bounds; bytes = read.1.1; owes = nothing }) h)) read

-- ---- events

abbrev pub Kept : Session → Type 0
Kept s = Both Knows knows s

abbrev Stays : Session → List Act → Type 0
Stays s acts = Kept s → Faithful s → Faithful (performed histories acts s)

turns_so : (file : Option (List ℕ)) → EachTurn file Stays
turns_so file = record {
  nothing = λ s k h. h;
  answers = λ l p rest s nothing k h.
      let t = on_with (Some l) (p ∷ rest) s in
      answering_faithful l p rest s (answer_to t.now l.terms file p) (answer_is_mild t.now l.terms file p nothing).0
      (λ few. answer_so t.now l.terms file p s.life.heard (known s.life)
      (All-head (WaitsFirst s.life.heard) p rest k.0.asks.waits) k.1.asks.0 k.1.program k.1.bounds nothing (h.agrees few))
      h.was;
  tells = λ l p tick s is e k h.
      let now = (on (Some l) s).now in
      let owes : OwesRunning p = subst OwesOf is h.was.owes in
      quiet_faithful (telling now p tick) (Some l) s (telling_owes now p tick)
      (λ few. telling_leads l.terms s.now.numbers (known s.life) now p tick refl (owes (λ none. never tick (sym none ∙ e)))
      (subst (λ (x : Option Program). Agrees (known s.life) x s.now.numbers l.terms) is (h.agrees few)))
      h.was;
}

-- the program is marked
hold_agrees : (l : Option Link) (s : Session) → Faithful (on l s)
    → AgreesOn l s.now.limits.last_seq (on_program (marked mark.Hold) s.now.debuggee.program) s.now.numbers (known s.life)
hold_agrees l s h = grind (arith, marked_agrees, h.agrees)

outcome_so : (e : Event) (s : Session) → Stays s (outcome_at (histories.see s) s.now.link e).acts
outcome_so e s = by_event (histories.see s) s.now.link (λ _ o. Stays s o.acts) (record {
  refuses = λ _ _ k h. h;
  opens = λ k. opens_by Faithful s.now.link s (λ h. record {
    was = record { before = All-push Held s.before s.life h.was.before h.was.present; present = tt; owes = h.was.owes };
    agrees = λ _. nothing_agrees false s.now.debuggee.program s.now.numbers first_terms refl;
  });
  accepts = λ piece k. accepts_by Faithful s.now.link piece s (λ l _ h.
      let asks = asks_of (read_on s.now piece).bodies in
      record {
        was = assumption (all_hold_same s.life.heard asks nothing_known s.life.said k.0.present h.was.present);
        agrees =
            λ few. rw (known_same s.life.heard asks nothing_known s.life.said k.0.present) (h.agrees few);
      });
  turns = λ file. each_turn file Stays (turns_so file) s.now.link s;
  slices = λ _ k h. h;
  holds = λ k h. record {
    was = assumption (owes_after (marked mark.Hold) (marked_owes mark.Hold) s.now.debuggee.program h.was.owes);
    agrees = hold_agrees s.now.link s h;
  };
  takes = λ n k h. assumption;
  drops = λ _ _ k h. record {
    was = assumption (owes_after left (λ p _. nothing_owed (left p) refl) s.now.debuggee.program h.was.owes);
    agrees = tt;
  };
}) e

-- ---- slices

beat_leads : (l : Option Link) (s : Session) (more : Bool) → Faithful (on l s) → LeadsIf l s (beat (histories.see (on l s)) more).acts
beat_leads None s more h = tt
beat_leads (Some l) s more h = λ few.
    program_leads l.terms s.now.numbers (known s.life) s.now.debuggee.program (histories.see (on (Some l) s)) more refl h.was.owes
    (h.agrees few)

beat_so : (s : Session) (more : Bool) → Faithful s → Faithful (performed histories (beat (histories.see s) more).acts s)
beat_so s more h =
    quiet_faithful (beat (histories.see s) more).acts s.now.link s (beat_owes s.now.debuggee.program (histories.see s) more)
    (beat_leads s.now.link s more h) h.was

abbrev pub Told : Session → Type 0
Told s = Kept s × Faithful s

pub beats_so : (n i : ℕ) (s : Session) → Told s → Told (beats histories n i s).state
beats_so = by_beats Told (λ t more x. (beat_keeps Knows knows t more x.0, beat_so t more x.1))

event_so : (e : Event) (s : Session) → Told s → Told (Effect s e)
event_so (Slice n) s h = beats_so n (enough n) s h
event_so e s h = (outcome_keeps Knows knows s.now.link e s h.0, outcome_so e s h.0 h.1)

pub told_at : (from : Beginning) (events : List Happened) → Told (Reached from events)
told_at from events =
    reached Told event_so beats_so from (
      (knows_at_first from, begins_so from),
      record { was = record { before = All-nil Held; present = tt; owes = grind arith }; agrees = tt },
    ) events

-- what was told on each connection was so
pub held_on : (from : Beginning) (events : List Happened) (c : ℕ) → Held (life_of c (Reached from events))
held_on from events c =
    let was = (told_at from events).1.was in each_life Held (Reached from events) tt was.before was.present c

pub headline : (from : Beginning) (events : List Happened) (c count : ℕ) → WhatIsKnownWasSo (Reached from events) c count
headline from events c count =
    let life = life_of c (Reached from events) in
    within_was_so (remembered life.heard) nothing_known life.said count None tt (held_on from events c)
