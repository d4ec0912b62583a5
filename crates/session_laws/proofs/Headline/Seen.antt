-- What can be seen at the end of an event is what could be seen at each message that it queued.
use Rattle.session_laws.proofs.Headline.Common.{ap, arith, at_end, beat, beats, Beginning, Bool, each_ends, Effect, ended_as, enough, Happened, histories, histories_follow, IsAtRest, IsFollowed, IsSeenAfter, le-ltb, List, next_by, None, Option, Reached, refl, seen_now, Session, Slice, sliced, SliceEnd, Slicing, Some, Spends, subst, suc, sym, with_beat, zero, ℕ, ◌∙◌, ◌≡◌, ◌≤◌}
use Rattle.session_laws.proofs.Headline.Truth.{beats_so, Told, told_at}
use Rattle.session_laws.proofs.Headline.Newly.{followed, nothing_queued, Printed, printed_fits, PrintsTo}
use Rattle.session_laws.proofs.Headline.Following.{first_begins, still_follows, turn_told}

-- ---- a slice of no move, or of one move where nothing is left to be told

module _ (n : ℕ) (s : Session) (so : Told s) where
  -- a slice of n moves, all of which were made
  record Under (d : Slicing Session) : Type 0 where
    told : IsFollowed s d.state
    printed : d.ending ≡ None → Printed s d.state
    most : d.ending ≡ None → n ≤ d.moved

  next_under : (k : ℕ) (e : Option SliceEnd) → (beats histories n k s).ending ≡ e → Under (beats histories n k s)
      → Under (next_by histories n e (beats histories n k s))
  next_under k (Some e) is h = h
  next_under k None is h =
      let d = beats histories n k s in
      let follows = still_follows s d.state (beats_so n k s so).1.was.owes (h.printed is) in
      let most = h.most is in
      subst (λ (more : Bool). Under (with_beat histories (beat (histories.see d.state) more) d)) (sym (le-ltb d.moved n most))
      (record { told = follows.told; printed = follows.printed; most = λ _. omega (arith, most) })

none_under : (s : Session) (so : Told s) (k : ℕ) → Under 0 s so (beats histories 0 k s)
none_under s so zero =
    let h = nothing_queued (PrintsTo (seen_now s)) s in
    record { told = followed s s (printed_fits s s (seen_now s) refl h); printed = λ _. h; most = λ _. omega arith }
none_under s so (suc k) = next_under 0 s so k (beats histories 0 k s).ending refl (none_under s so k)

one_under : (s : Session) (so : Told s) → IsAtRest s → (k : ℕ) → Under 1 s so (beats histories 1 (suc k) s)
one_under s so rest zero =
    let first = first_begins s so.1.was.owes rest in
    record {
      told = first.follows.told;
      printed = first.follows.printed;
      most = λ on. (let moved = first.moved on in omega (arith, moved));
    }
one_under s so rest (suc k) = next_under 1 s so (suc k) (beats histories 1 (suc k) s).ending refl (one_under s so rest k)

pub none_told : (s : Session) → Told s → IsFollowed s (sliced histories 0 s).state
none_told s so = (none_under s so (enough 0)).told

pub one_told : (s : Session) → Told s → IsAtRest s → IsFollowed s (sliced histories 1 s).state
one_told s so rest =
    let six : suc 5 ≡ enough 1 = omega arith in
    subst (λ (k : ℕ). IsFollowed s (beats histories 1 k s).state) six (one_under s so rest 5).told

-- ---- each event that is seen after it

pub rests : (s : Session) (n : ℕ) → Spends n s → IsAtRest (Effect s (Slice n))
rests s n spent =
    let e = each_ends histories histories_follow n s in
    ((at_end n (enough n) s).spent (e.1 ∙ ap (λ (x : SliceEnd). Some x) (sym (ap ended_as e.1) ∙ spent))).1

pub seen_after : (from : Beginning) (events : List Happened) → IsSeenAfter (Reached from events)
seen_after from events =
    let s = Reached from events in
    let so = told_at from events in
    record { turn = λ file. turn_told s file so.1.was.owes; none = none_told s so; one = one_told s so; rests = rests s }
