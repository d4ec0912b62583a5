-- What has arrived of a stream, and what is left after its frames.
use Rattle.watch_command.proofs.Common.{[], add-one, after_frame, ap, arith, begins_with_end, Bool, cond, drop, drop-cons, drop_all, end_of, false, first_of, get_or, HasLeft, length, length-drop, length-take-le, List, nat_lt, None, Option, option_map, others_of, Reading, reading_after, reading_by, reading_of, refl, rest_of, Some, start_of, subst, suc, sym, Tail, take, true, with_body, ℕ, ◌&&◌, ◌++◌, ◌+◌, ◌<◌, ◌==◌, ◌∙◌, ◌∷◌, ◌≡◌, ◌≤◌}
use Rattle.std.proofs.lemmas.Bool.Decides.{nat_tests}
use Rattle.framing.proofs.Cutting.{reading_of-append}
use Rattle.framing.proofs.Readings.{begins_is, reading_next, size_of_is}
use Rattle.framing.specs.Reading.Tail.{Partial}
use Rattle.framing.specs.Streams.{fault_of}
use Rattle.framing.specs.declared.error.FrameError.{FrameError}
use Rattle.framing.specs.declared.start.Start.{Start}
use Rattle.framing.specs.declared.start.Start.TheVariants.{Waits, Breaks, Begins}

-- ---- a frame less

record Gone (bytes body : List ℕ) (others : List (List ℕ)) (tail : Tail) : Type 0 where
  size : ℕ
  ends : end_of bytes ≡ Some size
  left : reading_of 1048576 (drop (size + length body) bytes) ≡ record { bodies = others; tail = tail }

gone_by : (bytes body : List ℕ) (others : List (List ℕ)) (tail : Tail) (s : Start) → start_of 1048576 bytes ≡ s
    → reading_by (reading_of 1048576) bytes s ≡ record { bodies = body ∷ others; tail = tail } → Gone bytes body others tail
gone_by bytes body others tail Waits e h = absurd (let no : [] ≡ body ∷ others = ap (λ (r : Reading). r.bodies) h in cc)
gone_by bytes body others tail (Breaks fault) e h = absurd (let no : [] ≡ body ∷ others = ap (λ (r : Reading). r.bodies) h in cc)
gone_by bytes body others tail (Begins size n) e h = by (nat_lt (length bytes) (size + n)) refl h where
  by : (b : Bool) → nat_lt (length bytes) (size + n) ≡ b
      → cond b (record { bodies = []; tail = Partial bytes }) (with_body (take n (drop size bytes)) (reading_of 1048576 (drop (size + n) bytes))) ≡ record { bodies = body ∷ others; tail = tail }
      → Gone bytes body others tail
  by true short h = absurd (let no : [] ≡ body ∷ others = ap (λ (r : Reading). r.bodies) h in cc)
  by false long h =
      let bodies : take n (drop size bytes) ∷ (reading_of 1048576 (drop (size + n) bytes)).bodies ≡ body ∷ others =
      ap (λ (r : Reading). r.bodies) h in
      let first : take n (drop size bytes) ≡ body = cc in
      let rest : (reading_of 1048576 (drop (size + n) bytes)).bodies ≡ others = cc in
      let tails : (reading_of 1048576 (drop (size + n) bytes)).tail ≡ tail = ap (λ (r : Reading). r.tail) h in
      let room : size + n ≤ length bytes = grind (arith, nat_tests) in
      let few : n ≤ length (drop size bytes) = omega (arith, length-drop size bytes) in
      let count : length body ≡ n = ap length (sym first) ∙ length-take-le n (drop size bytes) few in
      record {
        size = size;
        ends = (size_of_is bytes size (begins_is 1048576 bytes size n e).0).0;
        left = ap (λ (k : ℕ). reading_of 1048576 (drop (size + k) bytes)) count ∙ (λ i. record { bodies = rest i; tail = tails i });
      }

gone : (bytes body : List ℕ) (others : List (List ℕ)) (tail : Tail)
    → reading_of 1048576 bytes ≡ record { bodies = body ∷ others; tail = tail }
    → Gone bytes body others tail
gone bytes body others tail h = gone_by bytes body others tail (start_of 1048576 bytes) refl (sym (reading_next 1048576 bytes) ∙ h)

-- without the first frame
left_on : (bytes : List ℕ) (waiting : List (List ℕ)) (body : List ℕ) (tail : Tail) → Some body ≡ first_of waiting
    → HasLeft bytes waiting tail
    → HasLeft (after_frame bytes (length body) (end_of bytes)) (others_of waiting) tail
left_on bytes [] body tail first h = absurd (let no : (let o : Option (List ℕ) = Some body in o) ≡ None = first in cc)
left_on bytes (x ∷ others) body tail first h =
    let same : x ≡ body = cc in
    let g = gone bytes x others tail h.0 in
    let is : after_frame bytes (length body) (end_of bytes) ≡ drop (g.size + length x) bytes =
    ap (after_frame bytes (length body)) g.ends ∙ ap (λ (b : List ℕ). drop (g.size + length b) bytes) (sym same) in
    (ap (reading_of 1048576) is ∙ g.left, h.1)

pub left_step : (left left' body : List ℕ) (waiting waiting' : List (List ℕ)) (tail : Tail) → Some body ≡ first_of waiting
    → left' ≡ after_frame left (length body) (end_of left) → waiting' ≡ others_of waiting → HasLeft left waiting tail
    → HasLeft left' waiting' tail
left_step left left' body waiting waiting' tail first e f h =
    subst (λ (l : List ℕ). HasLeft l waiting' tail) (sym e)
    (subst (λ (w : List (List ℕ)). HasLeft (after_frame left (length body) (end_of left)) w tail) (sym f)
    (left_on left waiting body tail first h))

-- no frame is left
none_by : (bytes : List ℕ) (tail : Tail) (s : Start) → reading_by (reading_of 1048576) bytes s ≡ record { bodies = []; tail = tail }
    → fault_of tail ≡ None → rest_of tail ≡ bytes
none_by bytes tail Waits h none = sym (ap (λ (r : Reading). rest_of r.tail) h)
none_by bytes tail (Breaks fault) h none =
    absurd (let no : (let o : Option FrameError = Some fault in o) ≡ None = ap (λ (r : Reading). fault_of r.tail) h ∙ none in cc)
none_by bytes tail (Begins size n) h none = by (nat_lt (length bytes) (size + n)) h where
  by : (b : Bool)
      → cond b (record { bodies = []; tail = Partial bytes }) (with_body (take n (drop size bytes)) (reading_of 1048576 (drop (size + n) bytes))) ≡ record { bodies = []; tail = tail }
      → rest_of tail ≡ bytes
  by true h = sym (ap (λ (r : Reading). rest_of r.tail) h)
  by false h =
      absurd (let no : take n (drop size bytes) ∷ (reading_of 1048576 (drop (size + n) bytes)).bodies ≡ [] = ap
      (λ (r : Reading). r.bodies) h in cc)

pub none_left : (bytes : List ℕ) (waiting : List (List ℕ)) (tail : Tail) → None ≡ first_of waiting → HasLeft bytes waiting tail
    → bytes ≡ rest_of tail
none_left bytes [] tail first h =
    sym (none_by bytes tail (start_of 1048576 bytes) (sym (reading_next 1048576 bytes) ∙ h.0) h.1)
none_left bytes (x ∷ others) tail first h = absurd (let no : (let o : Option (List ℕ) = None in o) ≡ Some x = first in cc)

-- ---- where a header part ends

-- whether one ends here
pub ends_short : (bytes : List ℕ) → length bytes < 4 → begins_with_end bytes ≡ false
ends_short (a ∷ b ∷ c ∷ d ∷ bytes) short = absurd (omega arith)
ends_short _ short = refl

pub ends_long : (bytes : List ℕ) → 4 ≤ length bytes
    → begins_with_end bytes ≡ (get_or bytes 0 0 == 13) && (get_or bytes 1 0 == 10) && (get_or bytes 2 0 == 13) && (get_or bytes 3 0 == 10)
ends_long (a ∷ b ∷ c ∷ d ∷ bytes) long = refl
ends_long _ long = absurd (omega arith)

-- what is found after this many bytes
abbrev pub found_after : ℕ → Option ℕ → Option ℕ
found_after count o = option_map (λ k. count + k) o

pub found_first : (o : Option ℕ) → found_after 0 o ≡ o
found_first None = refl
found_first (Some k) = (let same : Some (0 + k) ≡ Some k = ap (λ (n : ℕ). Some n) (omega arith) in same)

pub found_here : (index : ℕ) (bytes : List ℕ) → begins_with_end bytes ≡ true → found_after index (end_of bytes) ≡ Some (index + 4)
found_here index [] ends = absurd (let no : false ≡ true = ends in cc)
found_here index (b ∷ bytes) ends = ap (λ (x : Bool). found_after index (cond x (Some 4) (option_map suc (end_of bytes)))) ends

-- not here, so later
pub found_later : (index : ℕ) (bytes : List ℕ) → index < length bytes → begins_with_end (drop index bytes) ≡ false
    → found_after index (end_of (drop index bytes)) ≡ found_after (index + 1) (end_of (drop (index + 1) bytes))
found_later index bytes short later =
    let b = get_or bytes index 0 in
    let rest = drop (index + 1) bytes in
    let is : drop index bytes ≡ b ∷ rest = drop-cons bytes index 0 short ∙ ap (λ (k : ℕ). b ∷ drop k bytes) (sym (add-one index)) in
    ap (λ (l : List ℕ). found_after index (end_of l)) is
    ∙ ap (λ (x : Bool). found_after index (cond x (Some 4) (option_map suc (end_of rest)))) (ap begins_with_end (sym is) ∙ later)
    ∙ by (end_of rest) where
      by : (o : Option ℕ) → found_after index (option_map suc o) ≡ found_after (index + 1) o
      by None = refl
      by (Some k) = (let same : Some (index + suc k) ≡ Some (index + 1 + k) = ap (λ (n : ℕ). Some n) (omega arith) in same)

-- nowhere
pub found_none : (index : ℕ) (bytes : List ℕ) → length bytes ≤ index → found_after index (end_of (drop index bytes)) ≡ None
found_none index bytes all = ap (λ (l : List ℕ). found_after index (end_of l)) (drop_all index bytes all)

-- ---- a piece more

-- what has arrived of the next frame is that of all bytes
pub tail_on : (bytes piece : List ℕ) (tail : Tail) → (reading_of 1048576 bytes).tail ≡ tail
    → (reading_of 1048576 (bytes ++ piece)).tail ≡ (reading_after 1048576 tail piece).tail
tail_on bytes piece tail h =
    ap (λ (r : Reading). r.tail) (reading_of-append 1048576 bytes piece) ∙ ap (λ (t : Tail). (reading_after 1048576 t piece).tail) h
