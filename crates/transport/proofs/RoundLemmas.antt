-- What a round does to a session.
use Rattle.transport.proofs.Common.{answered, ap, arith, counted, Effect, Err, Event, EventError, Happens, histories, Kept, nat_tests, None, Ok, ran_out, refl, Result, Session, Slice, slice_answer, sliced, Sliced, Stands, ℕ, ◌≡◌, ◌≤◌}
use Rattle.session.specs.Effects.{ran_out_at}
use Rattle.session.specs.declared.event.Applied.{Applied}
use Rattle.session.specs.declared.event.Applied.TheVariants as applied
use Rattle.session.specs.declared.event.SliceEnd.{SliceEnd}
use Rattle.session.specs.declared.event.SliceEnd.TheVariants as ending
use Rattle.session.specs.declared.event.EventError.TheVariants.{NoMemory}
use Rattle.transport.specs.Rounds.{moves_granted}

-- an event that found memory happened, or was refused
pub happened : {X : Type 0} {old new : Kept} {e : Event} (f : X → Applied) (r : Result X EventError) (s : Session)
    → ((x : X) → ran_out (f x) ≡ None) → Happens old e (answered f r) new → (r ≡ Err NoMemory → ⊥) → Stands old s
    → Stands new (Effect s e)
happened f (Ok x) s quiet h n st = (rw (quiet x) at (h.to_each s st)).1
happened f (Err NoMemory) s quiet h n st = absurd (n refl)
happened f (Err _) s quiet h n st = (h.to_each s st).1

-- a call that found memory
pub found_ok : {X : Type 0} {r : Result X EventError} {x : X} → r ≡ Ok x → r ≡ Err NoMemory → ⊥
found_ok e h = cc

pub found_err : {X : Type 0} {r : Result X EventError} {error : EventError} → r ≡ Err error → (error ≡ NoMemory → ⊥) → r ≡ Err NoMemory → ⊥
found_err e n h = n (cc)

-- ---- slices of a program

found_memory : (moved : ℕ) (e : SliceEnd) → (e ≡ ending.NoMemory → ⊥) → ran_out_at moved e ≡ None
found_memory moved e n = grind arith

-- a slice that found memory: how many moves it made, and what it left
pub goes : {k mid : Kept} (n : ℕ) (r : Sliced) (s : Session) → (r.ending ≡ ending.NoMemory → ⊥)
    → Happens k (Slice n) (Ok (applied.Slice r)) mid → Stands k s
    → ((sliced histories n s).moved ≡ r.moved) × Stands mid (Effect s (Slice n))
goes n r s ok h st =
    let x = rw (found_memory r.moved r.ending ok) at (h.to_each s st) in
    let made : slice_answer (sliced histories n s) ≡ r = cc (x.0) in
    (ap (λ (x : Sliced). x.moved) made, x.1)

-- the count goes no further
pub few_counted : (n next : ℕ) → next ≡ counted n → next ≤ 10000000
few_counted n next e = grind (arith, nat_tests)

-- the moves that are granted, as a number
pub granted : 100000 ≡ moves_granted
unfolding moves_granted
granted = refl
