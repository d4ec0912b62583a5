-- A slice, some beats at a time.
use Rattle.session.proofs.Common.{answer, ap, arith, beats, concluded, EndsWell, enough, from_here, keepings, Kept, Link, List, ltb, MayLack, None, Now, Ok, Option, Pending, ran_out_at, Reached, refl, Slice, sliced, SliceEnd, Slicing, Some, Step, Stretches, told, unless_memory, ℕ, ◌+◌, ◌-◌, ◌∙◌, ◌≡◌, ◌≤◌}
use Rattle.session.specs.declared.event.Applied.TheVariants.{Slice as DidSlice}
use Rattle.session.specs.declared.event.SliceEnd.TheVariants.{NoMemory}
use Rattle.session.specs.Kept.{settled}
use Rattle.session.proofs.Enough.{is_sliced, not_after, Follows}
use Rattle.session.proofs.Told.{tick_tells, with_one}

-- ---- `enough` beats end a slice of what is kept

settled_program : (l : Option Link) (seq : ℕ) (rest : List Pending) (now : Now)
    → (settled l seq rest now).debuggee.program ≡ now.debuggee.program
settled_program l seq rest now = grind arith

keepings_follow : Follows keepings
keepings_follow = record {
  becomes = λ now q s. refl;
  tells =
      λ k p tick. ap (λ (t : Kept). t.now.debuggee.program) (tick_tells k p tick) ∙ settled_program k.now.link _ k.now.arrivals.pending
      (with_one (concluded tick.outcome (told p)) k).now;
}

pub begins_slice : (n : ℕ) (s : Kept) → Reached n 0 s 0 s
begins_slice n s = record { count = 0; goes = refl; few = omega arith; within = omega arith }

-- the moves that are left of a slice
of_all : (n m : ℕ) (k new : Kept) (step : Step) → m ≤ n → Stretches (m + (n - m)) m k step new → Stretches n m k step new
of_all n m k new step within t = let all : m + (n - m) ≡ n = omega (arith, within) in rw all at t

-- some beats more
reaches : (n i m : ℕ) (s k new : Kept) (step : Step) → Reached n i s m k → Stretches n m k step new → (count : ℕ)
    × ((beats keepings n count s ≡ record { state = new; moved = m + step.moved; ending = unless_memory step.ending })
    × (step.ending ≡ None → i + 1 ≤ count))
reaches n i m s k new step r t = (
  r.count + t.count,
  (
    rw (Rattle.session.proofs.Advancing.beats_after n r.count t.count (from_here s), r.goes) t.goes,
    λ none. let a = r.few in let b = t.some none in omega (arith, a, b),
  ),
)

pub goes_more : (n i m : ℕ) (s k new : Kept) (step : Step) → Reached n i s m k → Stretches (m + (n - m)) m k step new → step.ending ≡ None
    → step.moved ≤ n - m → Reached n (i + 1) s (m + step.moved) new
goes_more n i m s k new step r t none few =
    let within = r.within in
    let more = reaches n i m s k new step r (of_all n m k new step within t) in
    record {
      count = more.0;
      goes = more.1.0 ∙ (λ j. record { state = new; moved = m + step.moved; ending = unless_memory (none j) });
      few = more.1.1 none;
      within = omega (arith, within, few);
    }

-- ---- how it ends

abbrev EndsSo : ℕ → ℕ → Kept → Kept → SliceEnd → Type 0
EndsSo n moved s new e = EndsWell keepings s (Slice n) (DidSlice (record { moved = moved; ending = e })) (ran_out_at moved e) (λ k. new ≡ k)

whole : (n count moved : ℕ) (s new : Kept) (e : SliceEnd)
    → beats keepings n count s ≡ record { state = new; moved = moved; ending = Some e }
    → (answer keepings (Slice n) s ≡ Ok (DidSlice (record { moved = moved; ending = e }))) × (new ≡ (sliced keepings n s).state)
whole n count moved s new e h =
    let is : beats keepings n count s ≡ sliced keepings n s = is_sliced keepings keepings_follow n count s e (rw h) in (cc, cc)

by_ending : (n count moved : ℕ) (s new : Kept) (e : SliceEnd)
    → beats keepings n count s ≡ record { state = new; moved = moved; ending = unless_memory (Some e) }
    → (e ≡ NoMemory → MayLack (keepings.see new) (ltb moved n)) → EndsSo n moved s new e
by_ending n count moved s new NoMemory h may =
    record { count = count; goes_on = rw h; moves = rw h; lacks = rw h (may refl); holds = rw h }
by_ending n count moved s new other h may = whole n count moved s new other h

pub slice_ends : (n i m : ℕ) (s k new : Kept) (step : Step) (e : SliceEnd) → Reached n i s m k → Stretches (m + (n - m)) m k step new
    → step.ending ≡ Some e → EndsSo n (m + step.moved) s new e
slice_ends n i m s k new step e r t is =
    let all = of_all n m k new step r.within t in
    let more = reaches n i m s k new step r all in
    by_ending n more.0 (m + step.moved) s new e
    (more.1.0 ∙ (λ j. record { state = new; moved = m + step.moved; ending = unless_memory (is j) }))
    (λ out. all.lacks (is ∙ ap (λ (x : SliceEnd). Some x) out))

pub has_ended : (n i m : ℕ) (s k : Kept) → Reached n i s m k → enough n ≤ i → ⊥
has_ended n i m s k r le =
    let few = r.few in
    not_after keepings keepings_follow n r.count s (omega (arith, le, few)) (ap (λ (d : Slicing Kept). d.ending) r.goes)
