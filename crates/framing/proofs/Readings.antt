-- The reading of a stream, frame by frame.
use Rattle.framing.proofs.Common.{[], ap, arith, Begins, Bool, Breaks, cases_Bool, content_length, drop, end_of, EndsPast, false, FrameError, inl, inr, length, length-append, length-drop, length-take-le, List, ltb, nat_tests, None, Ok, Option, parts_of, Reading, reading_by, reading_within, refl, Result, size_of, Some, Start, start_at, start_by, suc, sym, tail_by, take, take-append-drop, take-append-le, true, Waits, with_body, zero, ℕ, ◌++◌, ◌+◌, ◌-◌, ◌<◌, ◌∙◌, ◌∷◌, ◌≡◌, ◌≤◌}
use Rattle.framing.specs.Reading.{start_of, reading_of}
use Rattle.framing.proofs.Ends.{end_keeps, end_long, end_room, end-append}

-- the size of a header part
pub size_of_is : (bytes : List ℕ) (size : ℕ) → size_of bytes ≡ Some size → (end_of bytes ≡ Some size) × (size ≤ 4096)
size_of_is bytes size h = grind (arith, nat_tests)

-- what a start says of the header part
start_by_is : (k size n : ℕ) (r : Result ℕ FrameError) → start_by k r ≡ Begins size n → (k ≡ size) × (r ≡ Ok n)
start_by_is k size n r h = grind arith

start_at_is : (limit : ℕ) (bytes : List ℕ) (o : Option ℕ) (size n : ℕ) → start_at limit bytes o ≡ Begins size n
    → (o ≡ Some size) × (content_length limit (take (size - 4) bytes) ≡ Ok n)
start_at_is limit bytes None size n h = elim (cases_Bool (ltb (length bytes) 4096)) [ inl t ↦ cc | inr t ↦ cc ]
start_at_is limit bytes (Some k) size n h =
    let r = start_by_is k size n (content_length limit (take (k - 4) bytes)) h in
    (ap (λ x. Some x) r.0, ap (λ x. content_length limit (take (x - 4) bytes)) (sym r.0) ∙ r.1)

pub begins_is : (limit : ℕ) (bytes : List ℕ) (size n : ℕ) → start_of limit bytes ≡ Begins size n
    → (size_of bytes ≡ Some size) × (content_length limit (take (size - 4) bytes) ≡ Ok n)
unfolding start_of
begins_is limit bytes size n h = start_at_is limit bytes (size_of bytes) size n h

pub begins_size : (limit : ℕ) (bytes : List ℕ) (size n : ℕ) → start_of limit bytes ≡ Begins size n → (4 ≤ size) × (size ≤ length bytes)
begins_size limit bytes size n h = end_room bytes size (size_of_is bytes size (begins_is limit bytes size n h).0).0

pub starts_empty : (limit : ℕ) → start_of limit [] ≡ Waits
unfolding start_of
starts_empty limit = refl

-- more frames than bytes make no difference
same_step : (f g : List ℕ → Reading) (limit : ℕ) (bytes : List ℕ) → ((rest : List ℕ) → length rest < length bytes → f rest ≡ g rest)
    → (s : Start) → s ≡ start_of limit bytes → reading_by f bytes s ≡ reading_by g bytes s
same_step f g limit bytes same s e = grind (arith, nat_tests, begins_size limit bytes, length-drop)

same_frames : (f g : ℕ) (limit : ℕ) (bytes : List ℕ) → length bytes ≤ f → length bytes ≤ g
    → reading_within f limit bytes ≡ reading_within g limit bytes
same_frames zero zero limit bytes a b = refl
same_frames zero (suc g) limit [] a b = sym (ap (reading_by (reading_within g limit) []) (starts_empty limit))
same_frames (suc f) zero limit [] a b = ap (reading_by (reading_within f limit) []) (starts_empty limit)
same_frames (suc f) (suc g) limit bytes a b =
    same_step (reading_within f limit) (reading_within g limit) limit bytes
    (λ rest l. same_frames f g limit rest (omega arith) (omega arith)) (start_of limit bytes) refl
same_frames _ _ limit (c ∷ bytes) a b = absurd (omega arith)

-- a reading is that of the first frame, and then of the others
pub reading_next : (limit : ℕ) (bytes : List ℕ) → reading_of limit bytes ≡ reading_by (reading_of limit) bytes (start_of limit bytes)
unfolding reading_of
reading_next limit bytes =
    same_frames (length bytes) (suc (length bytes)) limit bytes (omega arith) (omega arith)
    ∙ same_step (reading_within (length bytes) limit) (reading_of limit) limit bytes
    (λ rest l. same_frames (length bytes) (length rest) limit rest (omega arith) (omega arith)) (start_of limit bytes) refl

abbrev pub Parted : Type 0
Parted = Option (List ℕ × List ℕ)

abbrev pub some_of : List ℕ → List ℕ → Parted
some_of a b = Some (a, b)

-- where no frame is whole, the tail is all there is; else its body comes before the others
pub reading_none : (limit : ℕ) (bytes : List ℕ) (s : Start) → s ≡ start_of limit bytes → parts_of s bytes ≡ None
    → reading_of limit bytes ≡ record { bodies = []; tail = tail_by s bytes }
reading_none limit bytes s e h = grind (arith, nat_tests, reading_next limit bytes)

pub reading_some : (limit : ℕ) (bytes body after : List ℕ) (s : Start) → s ≡ start_of limit bytes → parts_of s bytes ≡ some_of body after
    → reading_of limit bytes ≡ with_body body (reading_of limit after)
reading_some limit bytes body after s e h = grind (arith, nat_tests, reading_next limit bytes)

-- where a whole frame has its parts
pub record WholeFrame (s : Start) (bytes body after : List ℕ) : Type 0 where
  pub size : ℕ
  pub n : ℕ
  pub begins : s ≡ Begins size n
  pub fits : size + n ≤ length bytes
  pub body_is : take n (drop size bytes) ≡ body
  pub after_is : drop (size + n) bytes ≡ after

pub parts_are : (s : Start) (bytes body after : List ℕ) → parts_of s bytes ≡ some_of body after → WholeFrame s bytes body after
parts_are s bytes body after h = grind (arith, nat_tests)

-- the bytes after a frame are fewer
pub fewer_after : (limit : ℕ) (bytes body after : List ℕ) → parts_of (start_of limit bytes) bytes ≡ some_of body after
    → length after < length bytes
fewer_after limit bytes body after h = grind (arith, nat_tests, begins_size limit bytes, length-drop)

-- More bytes after those that say how a frame starts change nothing.
abbrev pub is_waiting : Start → Bool
is_waiting Waits = true
is_waiting (Breaks fault) = false
is_waiting (Begins size n) = false

size_keeps : (a b : List ℕ) (size : ℕ) → size_of a ≡ Some size → size_of (a ++ b) ≡ Some size
size_keeps a b size h = grind (arith, nat_tests, end_keeps a b)

size_stays_none : (a b : List ℕ) → size_of a ≡ None → 4096 ≤ length a → size_of (a ++ b) ≡ None
size_stays_none a b none long = grind (arith, nat_tests, end-append a b)

-- a start that is known although no header part is whole
long_stays : (limit : ℕ) (a b : List ℕ) → is_waiting (start_at limit a None) ≡ false → length a ≤ length b
    → (4096 ≤ length a) × (start_at limit b None ≡ start_at limit a None)
long_stays limit a b h l = grind (arith, nat_tests)

starts_stay : (limit : ℕ) (a b : List ℕ) (o : Option ℕ) → size_of a ≡ o → is_waiting (start_at limit a o) ≡ false
    → start_at limit (a ++ b) (size_of (a ++ b)) ≡ start_at limit a o
starts_stay limit a b (Some k) e h =
    let room = end_room a k (size_of_is a k e).0 in
    ap (start_at limit (a ++ b)) (size_keeps a b k e)
    ∙ ap (λ l. start_by k (content_length limit l)) (take-append-le (k - 4) a b (omega (arith, room)))
starts_stay limit a b None e h =
    let stays = long_stays limit a (a ++ b) h (rw length-append (omega arith)) in
    ap (start_at limit (a ++ b)) (size_stays_none a b e stays.0) ∙ stays.1

pub starts_keep : (limit : ℕ) (a b : List ℕ) → is_waiting (start_of limit a) ≡ false → start_of limit (a ++ b) ≡ start_of limit a
unfolding start_of
starts_keep limit a b h = starts_stay limit a b (size_of a) refl h

-- and where no header part is whole, it ends past the bytes that have come
waits_is : (limit : ℕ) (a : List ℕ) → start_of limit a ≡ Waits → (size_of a ≡ None) × (length a < 4096)
unfolding start_of
waits_is limit a h = grind (arith, nat_tests)

waits_past : (limit : ℕ) (a b : List ℕ) → start_of limit a ≡ Waits → EndsPast (length a) (a ++ b)
waits_past limit a b h size e = grind (arith, end-append a b size e, end_long a size, end_room a size, waits_is limit a h)

-- the same, for the first bytes of a list
pub start_waits : (limit : ℕ) (bytes : List ℕ) (before : ℕ) → before ≤ length bytes → start_of limit (take before bytes) ≡ Waits
    → EndsPast before bytes
start_waits limit bytes before within h =
    rw (take-append-drop, length-take-le before bytes within) at (waits_past limit (take before bytes) (drop before bytes) h)

pub start_stays : (limit : ℕ) (bytes : List ℕ) (before : ℕ) (s : Start) → s ≡ start_of limit (take before bytes) → is_waiting s ≡ false
    → s ≡ start_of limit bytes
start_stays limit bytes before s e h =
    grind (arith, starts_keep limit (take before bytes) (drop before bytes), take-append-drop before bytes)
