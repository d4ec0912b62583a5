-- Whole frames, and what follows them.
use Rattle.framing.proofs.Common.{[], ap, append-nil, append_assoc, arith, Begins, drop_at, first_by, Frame, length, length-append, List, ltb, nat_tests, None, Partial, Parts, parts_of, Reading, refl, Start, start_of, sym, tail_by, take_at, with_bodies, ℕ, ◌++◌, ◌∙◌, ◌∷◌, ◌≡◌}
use Rattle.framing.specs.Reading.{reading_of}
use Rattle.framing.proofs.Readings.{reading_none, some_of, starts_empty, starts_keep}
use Rattle.framing.proofs.Framing.{first_frame, frame_first}
use Rattle.framing.proofs.Cutting.{reading_of-append}

-- the bytes are whole frames
abbrev pub AllWhole : ℕ → List ℕ → Type 0
AllWhole limit bytes = (reading_of limit bytes).tail ≡ Partial []

pub nothing_read : (limit : ℕ) → reading_of limit [] ≡ record { bodies = []; tail = Partial [] }
unfolding reading_of
nothing_read limit = refl

pub nothing_whole : (limit : ℕ) → AllWhole limit []
nothing_whole limit = ap (λ (r : Reading). r.tail) (nothing_read limit)

frame_whole : (limit : ℕ) (f body : List ℕ) → Frame limit f body → AllWhole limit f
frame_whole limit f body h = grind (arith, nothing_read limit, append-nil f, frame_first limit f body [] h)

-- what follows whole frames is read as if it stood alone
whole-append : (limit : ℕ) (a b : List ℕ) → AllWhole limit a
    → reading_of limit (a ++ b) ≡ with_bodies (reading_of limit a).bodies (reading_of limit b)
whole-append limit a b h = grind (arith, reading_of-append limit a b)

pub whole_with : (limit : ℕ) (a b : List ℕ) → AllWhole limit a → AllWhole limit b → AllWhole limit (a ++ b)
whole_with limit a b h more = ap (λ (r : Reading). r.tail) (whole-append limit a b h) ∙ more

pub bodies_with : (limit : ℕ) (a b : List ℕ) → AllWhole limit a
    → (reading_of limit (a ++ b)).bodies ≡ (reading_of limit a).bodies ++ (reading_of limit b).bodies
bodies_with limit a b h = ap (λ (r : Reading). r.bodies) (whole-append limit a b h)

pub whole_read : (limit : ℕ) (f t : List ℕ) (s : Start) → AllWhole limit f → s ≡ start_of limit t → parts_of s t ≡ None
    → reading_of limit (f ++ t) ≡ record { bodies = (reading_of limit f).bodies; tail = tail_by s t }
whole_read limit f t s h e none = grind (arith, whole-append limit f t h, reading_none limit t s e none, append-nil)

-- how whole frames start, if there are any, and they start so whatever follows
whole_begins : (limit x : ℕ) (bytes : List ℕ) (s : Start) → AllWhole limit (x ∷ bytes) → s ≡ start_of limit (x ∷ bytes)
    → (size : ℕ) × (n : ℕ) × (s ≡ Begins size n)
whole_begins limit x bytes s h e = grind (arith, reading_none limit (x ∷ bytes) s e)

start_keeps : (limit x : ℕ) (a b : List ℕ) → AllWhole limit (x ∷ a) → start_of limit ((x ∷ a) ++ b) ≡ start_of limit (x ∷ a)
start_keeps limit x a b h = grind (arith, starts_keep limit (x ∷ a) b, whole_begins limit x a (start_of limit (x ∷ a)) h refl)

-- how the first of whole frames a starts once whole frames f follow, and then t, which starts with no whole frame
pub first_now : (limit : ℕ) (a f t : List ℕ) (first start : Start) → AllWhole limit a → first ≡ start_of limit a → AllWhole limit f
    → start ≡ start_of limit (f ++ t) → first_by first start (ltb (length t) (length (f ++ t))) ≡ start_of limit (a ++ f)
first_now limit (x ∷ a) f t first start h e more starts = grind (arith, whole_begins limit x a first h e, start_keeps limit x a f h)
first_now limit [] [] t first start h e more starts = grind (arith, nat_tests, starts_empty limit)
first_now limit [] (y ∷ f) t first start h e more starts =
    grind (arith, nat_tests, starts_empty limit, start_keeps limit y f t more, length-append f t)

-- How far the code has come: whole frames were passed, and the rest has this start.
pub record Reached (limit : ℕ) (bytes : List ℕ) (start : Start) (rest : List ℕ) : Type 0 where
  pub passed : List ℕ
  pub spelled : bytes ≡ passed ++ rest
  pub starts : start ≡ start_of limit rest
  pub whole : AllWhole limit passed

pub reached_start : (limit : ℕ) (bytes : List ℕ) (start : Start) → start ≡ start_of limit bytes → Reached limit bytes start bytes
reached_start limit bytes start e = record { passed = []; spelled = refl; starts = e; whole = nothing_whole limit }

pub reached_more : (limit : ℕ) (bytes : List ℕ) (start : Start) (rest body after : List ℕ) (next : Start)
    → Reached limit bytes start rest → parts_of start rest ≡ some_of body after → next ≡ start_of limit after
    → Reached limit bytes next after
reached_more limit bytes start rest body after next r h e =
    let f = first_frame limit rest body after start r.starts h in
    record {
      passed = r.passed ++ f.0;
      spelled = r.spelled ∙ ap (λ (x : List ℕ). r.passed ++ x) f.1 ∙ sym (append_assoc r.passed f.0 after);
      starts = e;
      whole = whole_with limit r.passed f.0 r.whole (frame_whole limit f.0 body f.2);
    }

pub reached_end : (limit : ℕ) (bytes : List ℕ) (start : Start) (rest : List ℕ) → Reached limit bytes start rest
    → parts_of start rest ≡ None → Parts limit bytes start (length rest)
reached_end limit bytes start rest r h = grind (arith, length-append r.passed rest, take_at r.passed rest, drop_at r.passed rest)
