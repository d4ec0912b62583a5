-- What is kept after an act, a slice or an event depends on what was kept alone, and so does the answer: no past is needed.
use Rattle.session.proofs.Common.{[], Act, answer, ap, Applied, arith, beat, beats, Beginning, BreaksOff, effect, enough, Event, EventError, histories, keepings, keeps, Kept, kept_of, List, ltb, next_beat, next_by, None, nothing_kept, Ok, Option, outcome, performed, performed_on, Program, refl, Result, Session, Slice, slice_answer, SliceEnd, Slicing, Some, Stands, start, suc, zero, ℕ, ◌∙◌, ◌∷◌, ◌≡◌}
use Rattle.session.specs.declared.event.Applied.TheVariants.{Slice as DidSlice}
use Rattle.session.specs.Config.{first_program}

-- ---- an act

act_kept : (act : Act) (s : Session) → kept_of (performed_on act s) ≡ keeps (performed_on act) (kept_of s)
act_kept act s = grind arith

acts_kept : (acts : List Act) (s : Session) → kept_of (performed histories acts s) ≡ performed keepings acts (kept_of s)
acts_kept [] s = refl
acts_kept (act ∷ acts) s = acts_kept acts (performed_on act s) ∙ ap (performed keepings acts) (act_kept act s)

-- ---- a slice

abbrev kept_in : Slicing Session → Slicing Kept
kept_in d = record { state = kept_of d.state; moved = d.moved; ending = d.ending }

next_kept : (n : ℕ) (ending : Option SliceEnd) (d : Slicing Session)
    → kept_in (next_by histories n ending d) ≡ next_by keepings n ending (kept_in d)
next_kept n (Some e) d = refl
next_kept n None d = cc (acts_kept (beat (histories.see d.state) (ltb d.moved n)).acts d.state)

beats_kept : (n k : ℕ) (s : Session) → kept_in (beats histories n k s) ≡ beats keepings n k (kept_of s)
beats_kept n zero s = refl
beats_kept n (suc k) s =
    next_kept n (beats histories n k s).ending (beats histories n k s) ∙ ap (next_beat keepings n) (beats_kept n k s)

-- a slice that breaks off does so whatever its past
pub breaks_kept : (n moved : ℕ) (s : Session) (new : Kept) → BreaksOff keepings n moved (kept_of s) (λ k. new ≡ k)
    → BreaksOff histories n moved s (λ t. Stands new t)
breaks_kept n moved s new b =
    let same = beats_kept n b.count s in
    record { count = b.count; goes_on = cc; moves = cc; lacks = rw (← same) at b.lacks; holds = cc }

-- ---- an event

pub effect_kept : (e : Event) (s : Session) → kept_of (effect histories e s) ≡ effect keepings e (kept_of s)
effect_kept (Slice n) s = ap (λ (d : Slicing Kept). d.state) (beats_kept n (enough n) s)
effect_kept other s = acts_kept (outcome (histories.see s) other).acts s

pub answer_kept : (e : Event) (s : Session) → answer histories e s ≡ answer keepings e (kept_of s)
answer_kept (Slice n) s =
    ap (λ (d : Slicing Kept). let r : Result Applied EventError = Ok (DidSlice (slice_answer d)) in r) (beats_kept n (enough n) s)
answer_kept other s = refl

-- ---- the beginning

pub begins : (from : Beginning) (program : Option Program) → program ≡ first_program from.program from.size
    → Stands (nothing_kept from.limits from.size program) (start from)
begins from program e = ap (nothing_kept from.limits from.size) e
