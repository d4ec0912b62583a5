-- What a session's connection is after a turn, and after the beats of a slice: more was said on it, and nothing else happened to it.
use Rattle.std.proofs.Common.{◌≡◌, ℕ, Bool, true, false, List, [], ◌∷◌, ◌++◌, map, Option, Some, None, is_some, refl, sym, ap, ◌∙◌, ltb, nat_lt, append_assoc, append-nil, zero, suc}
use Rattle.std.specs.Prelude.{⊤}
use Rattle.debuggee.specs.Programs.{Program, told}
use Rattle.handlers.specs.Given.{Answering}
use Rattle.queues.specs.declared.pending.Pending.{Pending}
use Rattle.replies.specs.declared.event.Event.{Event as Told}
use Rattle.replies.specs.declared.message.Message.{Message}
use Rattle.replies.specs.declared.message.Message.TheVariants.{Response, Event as IsEvent}
use Rattle.replies.specs.declared.response.Outcome.{Outcome}
use Rattle.debuggee.specs.declared.run.Why.TheVariants as why
use Rattle.handlers.specs.Refusals.{response_to}
use Rattle.handlers.specs.Telling.{exit_events, stop_event}
use Rattle.handlers.specs.declared.terms.Terms.{Terms}
use Rattle.session.specs.Acts.{Act, Now, Open, Close, Accept, Agree, Become, Refer, Reply, Tell, HangUp, Take}
use Rattle.session.specs.Effects.{Slicing, beats, next_beat, next_by, performed}
use Rattle.session.specs.Outcomes.{answer_to, answering, closing, outcome_at}
use Rattle.session.specs.Phases.{is_active}
use Rattle.session.specs.Sessions.{Effect, Life, Said, Session, agreed_on, histories, hung_on, performed_on, referred_on, replied_on, said_next, said_on}
use Rattle.session.specs.Slices.{beat, concludes, logged, output_events, tells, telling}
use Rattle.session.specs.declared.event.Event.TheVariants.{Turn}
use Rattle.session.specs.declared.event.SliceEnd.{SliceEnd}
use Rattle.session.specs.declared.link.Link.{Link}
use Rattle.session.proofs.Reaching.{if_keeps}
use Rattle.session_laws.proofs.ByForms.{on, on_with}
use Rattle.session_laws.proofs.Cases.{by_beat, each_turn}
use Rattle.stepping.specs.declared.tick.Outcome.{Outcome as CameTo}
use Rattle.stepping.specs.declared.tick.Outcome.TheVariants.{Went, Stopped, Ended}
use Rattle.stepping.specs.declared.tick.Tick.{Tick}
use Rattle.variables.specs.Laws.{Call}

-- more was said between two times
pub record Later (s t : Session) : Type 0 where
  pub news : List Said
  pub life : t.life ≡ record s.life { said = s.life.said ++ news }
  pub connections : t.now.connections ≡ s.now.connections
  pub tail : t.now.tail ≡ s.now.tail
  pub linked : is_some t.now.link ≡ is_some s.now.link

pub nothing_later : (s : Session) → Later s s
nothing_later s = record {
  news = [];
  life = ap (λ (l : List Said). record s.life { said = l }) (sym (append-nil s.life.said));
  connections = refl;
  tail = refl;
  linked = refl;
}

-- what happens on a connection but for messages
still : (s t u : Session) → u.life ≡ t.life → u.now.connections ≡ t.now.connections → u.now.tail ≡ t.now.tail
    → is_some u.now.link ≡ is_some t.now.link → Later s t → Later s u
still s t u life connections tail linked h = record {
  news = h.news;
  life = life ∙ h.life;
  connections = connections ∙ h.connections;
  tail = tail ∙ h.tail;
  linked = linked ∙ h.linked;
}

said_later : (s : Session) (l : Option Link) (m : Message) (rest : List Pending) (t : Session) → Later s (on l t)
    → Later s (said_on l m rest (on l t))
said_later s None m rest t h = h
said_later s (Some l) m rest t h =
    let new : Said = said_next t.now l m in
    if_keeps (Later s) (ltb l.seq t.now.limits.last_seq) _ _
    (λ _. record {
      news = h.news ++ new ∷ [];
      life = ap (λ (x : Life). record x { said = x.said ++ new ∷ [] }) h.life
          ∙ ap (λ (x : List Said). record s.life { said = x }) (append_assoc s.life.said h.news (new ∷ []));
      connections = h.connections;
      tail = h.tail;
      linked = h.linked;
    })
    (λ _. h)

replied_later : (s : Session) (pending : List Pending) (o : Outcome) (t : Session) → Later s t → Later s (replied_on pending o t)
replied_later s [] o t h = h
replied_later s (p ∷ rest) o t h = said_later s t.now.link (Response (response_to p.ask o)) rest t h

agreed_later : (s : Session) (l : Option Link) (terms : Terms) (t : Session) → Later s (on l t) → Later s (agreed_on l terms (on l t))
agreed_later s None terms t h = h
agreed_later s (Some l) terms t h = still s (on (Some l) t) _ refl refl refl refl h

referred_later : (s : Session) (l : Option Link) (call : Option Call) (t : Session) → Later s (on l t)
    → Later s (referred_on l call (on l t))
referred_later s None call t h = h
referred_later s (Some l) call t h = still s (on (Some l) t) _ refl refl refl refl h

hung_later : (s : Session) (l : Option Link) (t : Session) → Later s (on l t) → Later s (hung_on l (on l t))
hung_later s None t h = h
hung_later s (Some l) t h = still s (on (Some l) t) _ refl refl refl refl h

-- ---- acts of turns and slices

abbrev Speaks : Act → Type 0
Speaks Open = ⊥
Speaks Close = ⊥
Speaks (Accept piece) = ⊥
Speaks (Take n) = ⊥
Speaks act = ⊤

abbrev AllSpeak : List Act → Type 0
AllSpeak [] = ⊤
AllSpeak (act ∷ acts) = Speaks act × AllSpeak acts

act_later : (s : Session) (act : Act) (t : Session) → Speaks act → Later s t → Later s (performed_on act t)
act_later s Open t bad h = absurd bad
act_later s Close t bad h = absurd bad
act_later s (Accept piece) t bad h = absurd bad
act_later s (Take n) t bad h = absurd bad
act_later s (Agree terms) t so h = agreed_later s t.now.link terms t h
act_later s (Become d) t so h = still s t _ refl refl refl refl h
act_later s (Refer call) t so h = referred_later s t.now.link call t h
act_later s (Reply o) t so h = replied_later s t.now.arrivals.pending o t h
act_later s (Tell e) t so h = said_later s t.now.link (IsEvent e) t.now.arrivals.pending t h
act_later s HangUp t so h = hung_later s t.now.link t h

acts_later : (s : Session) (acts : List Act) (t : Session) → AllSpeak acts → Later s t → Later s (performed histories acts t)
acts_later s [] t so h = h
acts_later s (act ∷ acts) t so h = acts_later s acts (performed_on act t) so.1 (act_later s act t so.0 h)

both_speak : (xs ys : List Act) → AllSpeak xs → AllSpeak ys → AllSpeak (xs ++ ys)
both_speak [] ys a b = b
both_speak (x ∷ xs) ys a b = (a.0, both_speak xs ys a.1 b)

events_speak : (events : List Told) → AllSpeak (map Tell events)
events_speak [] = tt
events_speak (e ∷ events) = (tt, events_speak events)

tells_speak : (now : Now) (events : List Told) → AllSpeak (tells now events)
tells_speak now events = if_keeps AllSpeak (is_active now.link) _ [] (λ _. events_speak events) (λ _. tt)

concludes_speak : (now : Now) (p : Program) (o : CameTo) (ids : List ℕ) → AllSpeak (concludes now p o ids)
concludes_speak now p Went ids = tt
concludes_speak now p (Stopped reason) ids = (tt, tells_speak now (stop_event (why.Met reason) ids ∷ []))
concludes_speak now p (Ended code) ids = (tt, tells_speak now (exit_events code))

telling_speaks : (now : Now) (p : Program) (tick : Tick) → AllSpeak (telling now p tick)
telling_speaks now p tick =
    let events = output_events tick.printed (logged p.machine.lists) in
    let after = concludes now (told p) tick.outcome p.machine.lists.ids in
    (tt, both_speak (tells now events) after (tells_speak now events) (concludes_speak now (told p) tick.outcome p.machine.lists.ids))

closing_speaks : (closes : Bool) → AllSpeak (closing closes)
closing_speaks true = (tt, tt)
closing_speaks false = tt

answering_speaks : (a : Answering) → AllSpeak (answering a)
answering_speaks a = (tt, (tt, (tt, (tt, both_speak (map Tell a.events) (closing a.closes) (events_speak a.events) (closing_speaks a.closes)))))

-- ---- a turn, and a beat

pub turn_later : (s : Session) (file : Option (List ℕ)) → Later s (Effect s (Turn file))
turn_later s file =
    let speaks : AllSpeak (outcome_at (histories.see s) s.now.link (Turn file)).acts =
    each_turn file (λ t acts. AllSpeak acts) (record {
      nothing = λ t. tt;
      tells = λ l p tick t is owed. telling_speaks (on (Some l) t).now p tick;
      answers = λ l p rest t owes. answering_speaks (answer_to (on_with (Some l) (p ∷ rest) t).now l.terms file p);
    }) s.now.link s in
    acts_later s (outcome_at (histories.see s) s.now.link (Turn file)).acts s speaks (nothing_later s)

beat_speaks : (t : Session) (more : Bool) → AllSpeak (beat (histories.see t) more).acts
beat_speaks t more =
    by_beat t.now.debuggee.program (histories.see t) more (λ b. AllSpeak b.acts) (λ _. tt) (λ p is. record {
      tells = λ tick _. telling_speaks t.now p tick;
      ends_for = λ e _ _. tt;
      stops_for = λ w _ _. (tt, tells_speak t.now (stop_event w [] ∷ []));
      exits_with = λ code _ _ _. (tt, tells_speak t.now (exit_events code));
      enters = λ _ _ _. (tt, tt);
      moves = λ _ _ _ _ _. (tt, tt);
    })

next_later : (s : Session) (n : ℕ) (d : Slicing Session) → Later s d.state → Later s (next_beat histories n d).state
next_later s n d h = by d.ending where
  more : Bool
  more = nat_lt d.moved n

  by : (e : Option SliceEnd) → Later s (next_by histories n e d).state
  by (Some e) = h
  by None = acts_later s (beat (histories.see d.state) more).acts d.state (beat_speaks d.state more) h

-- after each number of beats
pub beats_later : (s : Session) (n k : ℕ) → Later s (beats histories n k s).state
beats_later s n zero = nothing_later s
beats_later s n (suc k) = next_later s n (beats histories n k s) (beats_later s n k)
