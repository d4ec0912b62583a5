-- What holds at the start, and is kept by each event and by each cut slice, holds of whatever is reached; and what each act keeps, these do.
use Rattle.session.proofs.Common.{[], Act, after_all, All, beat, beats, Beginning, Effect, enough, Event, get_or, histories, Life, life_of, List, lives, ltb, map, next_by, no_life, None, Option, outcome, performed, performed_on, refl, Session, Slice, SliceEnd, Slicing, Some, start, suc, zero, ℕ, ◌++◌, ◌∷◌, ◌≡◌}
use Rattle.std.proofs.lemmas.List.Elements.{All-push, All-head, All-tail}
pub use Rattle.session.proofs.Common.{if_keeps}
use Rattle.session.specs.Reached.{Happened, Whole, Cut, Reached, leaves, led_to}

module _ (P : Session → Type 0) (by_event : (e : Event) (s : Session) → P s → P (Effect s e))
    (by_beats : (n count : ℕ) (s : Session) → P s → P (beats histories n count s).state) where
  pub each_keeps : (x : Happened) (s : Session) → P s → P (leaves s x)
  each_keeps (Whole e) s h = by_event e s h
  each_keeps (Cut n count) s h = by_beats n count s h

  all_keep : (happened : List Happened) (s : Session) → P s → P (led_to happened s)
  all_keep [] s h = h
  all_keep (x ∷ happened) s h = all_keep happened (leaves s x) (each_keeps x s h)

  pub reached : (from : Beginning) → P (start from) → (happened : List Happened) → P (Reached from happened)
  reached from h happened = all_keep happened (start from) h

-- events that are done are such
pub whole_events : (events : List Event) (s : Session) → led_to (map Whole events) s ≡ after_all histories events s
whole_events [] s = refl
whole_events (e ∷ events) s = whole_events events (Effect s e)

pub led_append : (xs ys : List Happened) (s : Session) → led_to (xs ++ ys) s ≡ led_to ys (led_to xs s)
led_append [] ys s = refl
led_append (x ∷ xs) ys s = led_append xs ys (leaves s x)

-- acts, one after the other
pub performed_append : (xs ys : List Act) (s : Session)
    → performed histories (xs ++ ys) s ≡ performed histories ys (performed histories xs s)
performed_append [] ys s = refl
performed_append (x ∷ xs) ys s = performed_append xs ys (performed_on x s)

-- ---- what each act keeps, in every state

abbrev pub KeptByActs : (Session → Type 0) → Type 0
KeptByActs P = (act : Act) (s : Session) → P s → P (performed_on act s)

module _ (P : Session → Type 0) (k : KeptByActs P) where
  pub acts_keep : (acts : List Act) (s : Session) → P s → P (performed histories acts s)
  acts_keep [] s h = h
  acts_keep (act ∷ acts) s h = acts_keep acts (performed_on act s) (k act s h)

  next_keeps : (n : ℕ) (e : Option SliceEnd) (d : Slicing Session) → P d.state → P (next_by histories n e d).state
  next_keeps n (Some e) d h = h
  next_keeps n None d h = acts_keep (beat (histories.see d.state) (ltb d.moved n)).acts d.state h

  beats_keep : (n i : ℕ) (s : Session) → P s → P (beats histories n i s).state
  beats_keep n zero s h = h
  beats_keep n (suc i) s h = next_keeps n (beats histories n i s).ending (beats histories n i s) (beats_keep n i s h)

  pub event_keeps : (e : Event) (s : Session) → P s → P (Effect s e)
  event_keeps (Slice n) s h = beats_keep n (enough n) s h
  event_keeps other s h = acts_keep (outcome (histories.see s) other).acts s h

  pub reached_by_acts : (from : Beginning) → P (start from) → (happened : List Happened) → P (Reached from happened)
  reached_by_acts from h happened = reached P event_keeps beats_keep from h happened

-- ---- lives

any_of : {X : Type 0} (P : X → Type 0) (xs : List X) (i : ℕ) (d : X) → P d → All P xs → P (get_or xs i d)
any_of P [] i d h all = h
any_of P (x ∷ xs) zero d h all = All-head P x xs all
any_of P (x ∷ xs) (suc i) d h all = any_of P xs i d h (All-tail P x xs all)

pub each_life : (P : Life → Type 0) (s : Session) → P no_life → All P s.before → P s.life → (c : ℕ) → P (life_of c s)
each_life P s none before present c = any_of P (lives s) c no_life none (All-push P s.before s.life before present)
