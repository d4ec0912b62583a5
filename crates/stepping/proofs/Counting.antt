-- How many instructions have retired: before each of the recorded moves no more calls were open than had retired then.
use Rattle.stepping.proofs.Common.{[], AreCounted, arith, Burst, BurstEnd, Bursts, counted_by, Course, EndsBurst, Err, Exit, Goal, GoesOn, IsSound, length, List, Lists, moved_by, Ok, past_after, past_left, Position, position_at, recorded, refl, Result, Retire, slice_get, Some, Stepped, suc, take, Trap, undone_to, zero, ℕ, ◌+◌, ◌-◌, ◌<◌, ◌∷◌, ◌≡◌, ◌≤◌}
use Rattle.course.specs.Positions.{gone_back}
use Rattle.stepping.specs.declared.burst.BurstEnd.TheVariants.{Spent, Near, Halted}
use Rattle.stepping.proofs.Bursting.{retires_deeper}

-- one of the first of a list is one of the list
taken : (n : ℕ) (past : List Position) (k : ℕ) (p : Position) → slice_get (take n past) k ≡ Some p → slice_get past k ≡ Some p
taken zero past k p e = absurd (cc)
taken (suc n) [] k p e = e
taken (suc n) (x ∷ past) zero p e = e
taken (suc n) (x ∷ past) (suc k) p e = taken n past k p e

-- no more calls are open than instructions have retired
pub not_deeper : (c : Course) (retired : ℕ) → AreCounted c retired → c.now.calls.depth ≤ retired
not_deeper c retired h = omega (arith, h 0 c.now refl)

-- where the machine is now, and before each of its moves one less had retired
counts : (now : Position) (past : List Position) (retired : ℕ) → now.calls.depth ≤ retired
    → ((k : ℕ) (p : Position) → slice_get past k ≡ Some p → p.calls.depth + suc k ≤ retired)
    → AreCounted (record { now = now; past = past }) retired
counts now past retired deep h k p is = grind arith

-- only the calls and the past count
pub counts_alike : (before after : Course) (retired : ℕ) → after.now.calls.depth ≤ retired → after.past ≡ before.past
    → AreCounted before retired → AreCounted after retired
counts_alike before after retired deep e h = counts after.now after.past retired deep (λ k p is. h (suc k) p (rw e at is))

-- a move more
counts_more : (pc : ℕ) (before after : Course) (retired : ℕ) → after.now.calls.depth ≤ before.now.calls.depth + 1
    → after.past ≡ recorded pc before → AreCounted before retired → AreCounted after (retired + 1)
counts_more pc before after retired deep e h =
    let there : Course = record before { now = position_at pc before.now } in
    let few = not_deeper before retired h in
    counts after.now after.past (retired + 1) (omega (arith, deep, few)) (λ k p is.
    omega (arith, counts_alike before there retired few refl h k p (taken 65536 (there.now ∷ there.past) k p (rw e at is))))

counts_on : (at next : ℕ) (before after : Course) (retired : ℕ) → GoesOn at before (Ok next) after → AreCounted before retired
    → AreCounted after (retired + 1)
counts_on at next before after retired g h = counts_more at before after retired (retires_deeper at next before.now after.now g.0) g.1 h

-- a move less
pub undone_counts : (c : Course) (retired : ℕ) → AreCounted c retired → 0 < length c.past
    → (0 < retired) × AreCounted (gone_back c) (retired - 1)
undone_counts c retired h some = by c.past h some where
  by : (past : List Position) → AreCounted (record { now = c.now; past = past }) retired → 0 < length past
      → (0 < retired) × AreCounted (undone_to past (record { now = c.now; past = past })) (retired - 1)
  by [] h some = absurd (omega (arith, some))
  by (p ∷ past) h some = (omega (arith, h 1 p refl), λ k q is. omega (arith, h (suc k) q is))

-- no move is recorded
pub counts_anew : (now : Position) (retired : ℕ) → now.calls.depth ≤ retired → AreCounted (record { now = now; past = [] }) retired
counts_anew now retired h k p is = grind arith

-- they are given up where bytes were written
pub written_counts : {A E : Type 0} (answer : Result A E) (c : Course) (memory : List ℕ) (retired : ℕ) → AreCounted c retired
    → AreCounted (record { now = record c.now { memory = memory }; past = past_left answer c.past }) retired
written_counts (Ok value) c memory retired h = counts_anew (record c.now { memory = memory }) retired (not_deeper c retired h)
written_counts (Err error) c memory retired h =
    counts_alike c (record c { now = record c.now { memory = memory } }) retired (not_deeper c retired h) refl h

-- a move that was settled
pub settled_counts : (s : Stepped) (pc : ℕ) (c : Course) (retired : ℕ) → AreCounted c retired
    → AreCounted (record { now = position_at pc c.now; past = past_after (Ok s) c }) (retired + counted_by s)
settled_counts (Exit code) pc c retired h =
    counts (position_at pc c.now) c.past _ (omega (arith, not_deeper c retired h)) (λ k p is. omega (arith, h (suc k) p is))
settled_counts (Trap cause) pc c retired h =
    counts (position_at pc c.now) c.past _ (omega (arith, not_deeper c retired h)) (λ k p is. omega (arith, h (suc k) p is))
settled_counts s pc c retired h =
    counts_more c.now.hart.pc c (record { now = position_at pc c.now; past = recorded c.now.hart.pc c }) retired (omega arith) refl h

-- ---- instructions in a row

retire_counts : (n : ℕ) (lists : Lists) (reach at next : ℕ) (p q : Course) (retired : ℕ) → Retire n lists reach at p next q
    → AreCounted p retired → AreCounted q (retired + n)
retire_counts zero lists reach at next p q retired h counted = rw h.1 (λ k x is. omega (arith, counted k x is))
retire_counts (suc n) lists reach at next p q retired h counted = λ k x is.
    omega (arith, counts_on h.0 next h.1 q (retired + n) h.2.1 (retire_counts n lists reach at h.0 p h.1 retired h.2.0 counted) k x is)

-- and once pc is set
pub arrives_counted : (most : ℕ) (lists : Lists) (reach : ℕ) (p : Course) (burst : Burst) (after there : Course) (retired moved : ℕ)
    → Bursts most lists reach p burst after → there ≡ record after { now = position_at burst.pc after.now }
    → moved ≡ moved_by burst.went burst.ending → AreCounted p retired → AreCounted there (retired + moved)
arrives_counted most lists reach p burst after there retired moved h e same counted =
    rw (e, same) (counts_alike after (record after { now = position_at burst.pc after.now }) _ (not_deeper after _ all) refl all) where
      go : (ending : BurstEnd) → EndsBurst most burst.went ending h.pc h.middle burst.pc after
          → AreCounted h.middle (retired + burst.went) → AreCounted after (retired + moved_by burst.went ending)
      go Spent e c = rw e.1.1 c
      go Near e c = λ k x is. omega (arith, counts_on h.pc burst.pc h.middle after (retired + burst.went) e.1 c k x is)
      go (Halted halt) e c = rw e.1.0.1 c

      all : AreCounted after (retired + moved_by burst.went burst.ending)
      all = go burst.ending h.ends (retire_counts burst.went lists reach p.now.hart.pc h.pc p h.middle retired h.retire counted)

-- what holds of every machine still does, with another course and another count
pub still_sound : {size retired count reach start : ℕ} {course next : Course} {goal : Goal} → IsSound size course retired reach goal start
    → AreCounted next count → IsSound size next count reach goal start
still_sound h called = record { whole = h.whole; some = h.some; few = h.few; called = called; unmet = h.unmet }
