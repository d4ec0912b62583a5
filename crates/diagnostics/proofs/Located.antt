-- The errors of a text, by how it is read.
use Rattle.diagnostics.proofs.Common.{[], ap, arith, AsmError, Err, errors_by, errors_in, false, IfOk, IfSome, if◌then◌else◌, is_utf8, IsUtf8, length, length-map, line_errors, line_in, lines, lines_of, lines_of_parts, List, located_among, map, nat_lt, None, Ok, Option, refl, Result, slice_split, Some, sym, text_limit, true, Vec, vec_items, ℕ, ◌==◌, ◌∙◌, ◌∷◌, ◌≡◌, ◌≤◌}
use Rattle.std.specs.Prelude.{Bool}
use Rattle.std.proofs.lemmas.Bool.Decides.{nat_tests}
use Rattle.std.proofs.lemmas.List.Splits.{length-slice_split}
use Rattle.std.proofs.lemmas.List.Sums.{count_by-le-length}
use Rattle.std.proofs.lemmas.Str.{is_utf8-from_IsUtf8}
use Rattle.assembler.specs.Program.{whole_error}
use Rattle.diagnostics.specs.Errors.{errors_of}

-- ---- how many lines a text has

parts_few : (parts : List (List ℕ)) → length (lines_of_parts parts) ≤ length parts
parts_few [] = omega arith
parts_few (part ∷ []) = last (length part == 0)
  where
    last : (empty : Bool) → length (if empty then [] else part ∷ []) ≤ 1
    last true = omega arith
    last false = omega arith
parts_few (part ∷ other ∷ others) = let h = parts_few (other ∷ others) in omega (arith, h)

pub lines_few : (text : List ℕ) → length text ≤ 1048576 → length (lines text) ≤ 1048577
lines_few text few =
    let parts = slice_split (λ b. b == 10) text in
    let a = parts_few parts in
    let b = length-slice_split (λ b. b == 10) text in
    let c = count_by-le-length (λ b. b == 10) text in
    omega (arith, a, b, c, few)

listed_few : {A : Type 0} (items : List A) (f : A → List ℕ) (text : List ℕ) → length text ≤ 1048576 → map f items ≡ lines text
    → length items ≤ 1048577
listed_few items f text few h =
    let n = ap length h in
    let m = length-map items f in
    let most = lines_few text few in
    omega (arith, n, m, most)

pub few_from : {A Z E : Type 0} (r : Result (Vec A Z) E) (f : A → List ℕ) (text : List ℕ) → length text ≤ 1048576
    → IfOk r (λ list. map f (vec_items list) ≡ lines text) → IfOk r (λ list. length (vec_items list) ≤ 1048577)
few_from (Ok list) f text few h = listed_few (vec_items list) f text few h
few_from (Err error) f text few h = tt

-- ---- a text that is wrong as a whole

pub whole_is : {A : Type 0} (found : Option AsmError) (result : Result A AsmError) (error : AsmError) → result ≡ Err error
    → IfSome found (λ whole. result ≡ Err whole) → IfSome found (λ whole. whole ≡ error)
whole_is None result error e h = tt
whole_is (Some whole) result error e h = cc

pub whole_told : (text : List ℕ) (found whole : AsmError) → whole_error text ≡ Some found
    → IfSome (whole_error text) (λ error. error ≡ whole)
    → (whole, line_in text whole.line) ∷ [] ≡ errors_in text
unfolding errors_of
whole_told text found whole h e =
    let same : found ≡ whole = rw h at e in
    ap (λ error. (error, line_in text error.line) ∷ []) (sym same)
    ∙ ap (λ o. located_among (lines_of text) (errors_by o text)) (sym h)

-- ---- a text that is read line by line

nothing_whole : (text : List ℕ) → length text ≤ 1048576 → IsUtf8 text → whole_error text ≡ None
unfolding whole_error
nothing_whole text h u =
    let t : nat_lt text_limit (length text) ≡ false = grind (arith, nat_tests) in
    let valid : is_utf8 text ≡ true = is_utf8-from_IsUtf8 text u in
    rw t (rw valid refl)

pub lines_told : (text : List ℕ) → length text ≤ 1048576 → IsUtf8 text
    → located_among (lines text) (line_errors (lines text)) ≡ errors_in text
unfolding errors_of
lines_told text h u =
    let valid : is_utf8 text ≡ true = is_utf8-from_IsUtf8 text u in
    let read : lines text ≡ lines_of text = rw valid refl in
    ap (λ (l : List (List ℕ)). located_among l (line_errors (lines text))) read
    ∙ ap (λ o. located_among (lines_of text) (errors_by o text)) (sym (nothing_whole text h u))
