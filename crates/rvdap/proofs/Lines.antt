-- No more of a line is taken than says what it is.
use Rattle.std.proofs.Common.{◌≡◌, ℕ, zero, suc, ◌+◌, ◌-◌, ◌<◌, ◌≤◌, ◌==◌, ◌⊎◌, inl, inr, nat_le, ◌&&◌, Bool, true, false, if◌then◌else◌, Option, Some, None, List, [], ◌∷◌, ◌++◌, length, take, slice_index, refl, ap, sym, subst, ◌∙◌, IfSome, option_map, arith, length-take-le, take_all}
use Rattle.std.proofs.lemmas.Bool.{cases_lt, lt-leb, lt-ltb}
use Rattle.std.specs.Io.BufRead.{ends_with_byte, strip_last, take_through}
use Rattle.rvdap.specs.Lines.{line_of, longest_line, most_taken, without_end}

-- it does not matter whether a text is cut off first or read up to a byte
take_through-take : (b n : ℕ) (xs : List ℕ) → take_through b (take n xs) ≡ take n (take_through b xs)
take_through-take b zero xs = refl
take_through-take b (suc n) [] = refl
take_through-take b (suc n) (x ∷ xs) = by (x == b) (take_through-take b n xs)
  where
    by : (c : Bool) → take_through b (take n xs) ≡ take n (take_through b xs)
        → (if c then x ∷ [] else x ∷ take_through b (take n xs)) ≡ take (suc n) (if c then x ∷ [] else x ∷ take_through b xs)
    by true rest = ap (λ (l : List ℕ). x ∷ l) (sym (take_all n [] (omega arith)))
    by false rest = ap (λ (l : List ℕ). x ∷ l) rest

last_byte : (b x : ℕ) (xs : List ℕ) → ends_with_byte b (x ∷ xs) ≡ (slice_index (x ∷ xs) (length (x ∷ xs) - 1) == b)
last_byte b x xs = ap (λ (c : Bool). c && (slice_index (x ∷ xs) (length (x ∷ xs) - 1) == b)) (lt-ltb 0 (length (x ∷ xs)) (omega arith))

-- a longer text ends as its rest does
ends_with_byte-cons : (b x y : ℕ) (ys : List ℕ) → ends_with_byte b (x ∷ y ∷ ys) ≡ ends_with_byte b (y ∷ ys)
ends_with_byte-cons b x y ys =
    let longer : length (x ∷ y ∷ ys) - 1 ≡ suc (length ys) = omega arith in
    let rest : length (y ∷ ys) - 1 ≡ length ys = omega arith in
    last_byte b x (y ∷ ys) ∙ ap (λ (i : ℕ). slice_index (x ∷ y ∷ ys) i == b) longer
    ∙ sym (last_byte b y ys ∙ ap (λ (i : ℕ). slice_index (y ∷ ys) i == b) rest)

ends_with_byte-take_more : (b x n : ℕ) (t : List ℕ) → (x == b) ≡ false → n < length t → ends_with_byte b (take n t) ≡ false
    → ends_with_byte b (take (suc n) (x ∷ t)) ≡ false
ends_with_byte-take_more b x zero t e h rest = e
ends_with_byte-take_more b x (suc n) [] e h rest = absurd (omega arith)
ends_with_byte-take_more b x (suc n) (y ∷ ys) e h rest = ends_with_byte-cons b x y (take n ys) ∙ rest

-- what is read up to a byte has none before its end
ends_with_byte-take : (b n : ℕ) (xs : List ℕ) → n < length (take_through b xs) → ends_with_byte b (take n (take_through b xs)) ≡ false
ends_with_byte-take b zero xs h = refl
ends_with_byte-take b (suc n) [] h = absurd (omega arith)
ends_with_byte-take b (suc n) (x ∷ xs) h = by (x == b) refl h (ends_with_byte-take b n xs)
  where
    by : (c : Bool) → (x == b) ≡ c → suc n < length (if c then x ∷ [] else x ∷ take_through b xs)
        → (n < length (take_through b xs) → ends_with_byte b (take n (take_through b xs)) ≡ false)
        → ends_with_byte b (take (suc n) (if c then x ∷ [] else x ∷ take_through b xs)) ≡ false
    by true e more rest = absurd (omega arith)
    by false e more rest =
        let fewer : n < length (take_through b xs) = omega arith in
        ends_with_byte-take_more b x n (take_through b xs) e fewer (rest fewer)

length-strip_last : (b : ℕ) (xs : List ℕ) → length xs ≤ length (strip_last b xs) + 1
length-strip_last b xs = by (ends_with_byte b xs)
  where
    by : (c : Bool) → length xs ≤ length (if c then take (length xs - 1) xs else xs) + 1
    by true = omega (arith, length-take-le (length xs - 1) xs (omega arith))
    by false = omega arith

-- the end of a line has at most two bytes
length-without_end : (xs : List ℕ) → length xs ≤ length (without_end xs) + 2
length-without_end xs = by (ends_with_byte 10 xs)
  where
    by : (c : Bool) → length xs ≤ length (if c then strip_last 13 (strip_last 10 xs) else xs) + 2
    by true = omega (arith, length-strip_last 10 xs, length-strip_last 13 (strip_last 10 xs))
    by false = omega arith

no_line : (line : List ℕ) → longest_line < length line → (if nat_le (length line) longest_line then Some line else None) ≡ None
no_line line h = ap (λ (c : Bool). if c then Some line else None) (lt-leb (length line) longest_line h)

-- where as much as can be taken has no end, there is no line
line_of-cut_off : (xs : List ℕ) → longest_line < length xs → ends_with_byte 10 xs ≡ false → line_of xs ≡ None
line_of-cut_off xs h e =
    let all : without_end xs ≡ xs = ap (λ (c : Bool). if c then strip_last 13 (strip_last 10 xs) else xs) e in
    ap (λ (line : List ℕ). if nat_le (length line) longest_line then Some line else None) all ∙ no_line xs h

-- and there is none in more than that
line_of-longer : (xs : List ℕ) → most_taken < length xs → line_of xs ≡ None
line_of-longer xs h = no_line (without_end xs) (omega (arith, length-without_end xs))

-- the line is the same, whether all of it was taken or as much as is taken at once
pub line_of-taken : (xs : List ℕ) → line_of (take_through 10 (take most_taken xs)) ≡ line_of (take_through 10 xs)
line_of-taken xs = ap line_of (take_through-take 10 most_taken xs) ∙ by (cases_lt most_taken (length (take_through 10 xs)))
  where
    by : (most_taken < length (take_through 10 xs)) ⊎ (length (take_through 10 xs) ≤ most_taken)
        → line_of (take most_taken (take_through 10 xs)) ≡ line_of (take_through 10 xs)
    by (inl more) =
        let taken : length (take most_taken (take_through 10 xs)) ≡ most_taken = length-take-le most_taken (take_through 10 xs) (omega arith) in
        line_of-cut_off (take most_taken (take_through 10 xs)) (omega arith) (ends_with_byte-take 10 most_taken xs more)
        ∙ sym (line_of-longer (take_through 10 xs) more)
    by (inr all) = ap line_of (take_all most_taken (take_through 10 xs) all)

pub line_taken : (left : Option (List ℕ)) (came : List ℕ) → IfSome left (λ xs. came ≡ take_through 10 (take most_taken xs))
    → IfSome left (λ xs. line_of came ≡ line_of (take_through 10 xs))
line_taken None came h = tt
line_taken (Some xs) came h = ap line_of h ∙ line_of-taken xs

-- what is read of a part is read of that much of what is left
pub part_read : (left part : Option (List ℕ)) (limit : ℕ) (was came : List ℕ) → part ≡ left → limit ≡ most_taken → was ≡ []
    → IfSome (option_map (take limit) part) (λ xs. came ≡ was ++ take_through 10 xs)
    → IfSome left (λ xs. came ≡ take_through 10 (take most_taken xs))
part_read left None limit was came p l w h = subst (λ (o : Option (List ℕ)). IfSome o (λ xs. came ≡ take_through 10 (take most_taken xs))) p tt
part_read left (Some xs) limit was came p l w h =
    let all : came ≡ take_through 10 (take most_taken xs) =
    h ∙ ap (λ (s : List ℕ). s ++ take_through 10 (take limit xs)) w ∙ ap (λ (n : ℕ). take_through 10 (take n xs)) l in
    subst (λ (o : Option (List ℕ)). IfSome o (λ ys. came ≡ take_through 10 (take most_taken ys))) p all
