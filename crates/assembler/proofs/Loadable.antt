-- An image that is right for a text can be loaded: it fits into memory, and it starts at a multiple of 4.
use Rattle.assembler.proofs.Common.{[], ap, arith, AsmError, Bool, bytes_eq, content_error, defines_twice, end_of, end_of_line, entry_of, error_by, false, first_address, first_of, first_start, is_aligned, IsLayout, Label, labels_at, labels_in, List, list_any, map, memory_end, misplaced, named, nat_le, nat_tests, None, not, Option, or_first, Place, place, place_error, placed, PlacedIsLoadable, places, refl, Row, rows_in, RowsRise, Some, Source, start, subst, sym, true, words_at, ℕ, ◌%◌, ◌++◌, ◌||◌, ◌∙◌, ◌∷◌, ◌≡◌, ◌≤◌}
use Rattle.std.specs.Prelude.{◌==◌, ◌&&◌}
use Rattle.std.proofs.lemmas.Slice.Eq.{bytes_eq-Decides}
use Rattle.assembler.proofs.Done.{fits_so}
use Rattle.assembler.proofs.Rising.{multiple, parted, rows_rise}

-- ---- the last line ends within the limit

pub ends : (limit : ℕ) (before : List Label) (p : Place) → misplaced limit before p ≡ None → end_of_line p.source p.address ≤ limit
ends limit before p h =
    let P : Bool → Bool → Bool → Type 0 = λ twice apart fits. defines_twice p.address before p.source.line.labels ≡ twice
    → (is_aligned p.source.line && not (p.address % 4 == 0)) ≡ apart → nat_le (end_of_line p.source p.address) limit ≡ fits
    → end_of_line p.source p.address ≤ limit in
    let go : P (defines_twice p.address before p.source.line.labels) (is_aligned p.source.line && not (p.address % 4 == 0))
    (nat_le (end_of_line p.source p.address) limit) = elim (defines_twice p.address before p.source.line.labels) as
    (λ twice. P twice (is_aligned p.source.line && not (p.address % 4 == 0)) (nat_le (end_of_line p.source p.address) limit)) [
      | true ↦ λ t v w. let e = (rw t at h) in cc
      | false ↦ elim (is_aligned p.source.line && not (p.address % 4 == 0)) as
          (λ apart. P false apart (nat_le (end_of_line p.source p.address) limit)) [
            | true ↦ λ t v w. let e = (rw (t, v) at h) in cc
            | false ↦ elim (nat_le (end_of_line p.source p.address) limit) as (λ fits. P false false fits) [
              | true ↦ λ t v w. grind (arith, nat_tests)
              | false ↦ λ t v w. let e = (rw (t, v, w) at h) in cc
            ]
          ]
    ] in go refl refl refl

within : (limit : ℕ) (before : List Label) (address : ℕ) (program : List Source) → address ≤ limit
    → place_error limit before (places address program) ≡ None → end_of address program ≤ limit
within limit before address [] at h = at
within limit before address (source ∷ others) at h =
    let right = parted source.number (misplaced limit before (place address source))
    (place_error limit (before ++ labels_at (place address source)) (places (end_of_line source address) others)) h in
    within limit (before ++ labels_at (place address source)) (end_of_line source address) others
    (ends limit before (place address source) right.0) right.1

-- ---- a label `_start` stands at a multiple of 4

named-append : (rows others : List Label) (text : List ℕ) → named (rows ++ others) text ≡ first_of (named rows text) (named others text)
named-append [] others text = refl
named-append ((name, address) ∷ rows) others text = by_test (bytes_eq text name) refl (named-append rows others text) where
  by_test : (b : Bool) → bytes_eq text name ≡ b → named (rows ++ others) text ≡ first_of (named rows text) (named others text)
      → named ((name, address) ∷ (rows ++ others)) text ≡ first_of (named ((name, address) ∷ rows) text) (named others text)
  by_test true t rest = rw t refl
  by_test false t rest = rw t rest

same_either_way : (a b : List ℕ) → bytes_eq a b ≡ true → bytes_eq b a ≡ true
same_either_way a b h = (bytes_eq-Decides b a).1 (sym ((bytes_eq-Decides a b).0 h))

or_true : (a b : Bool) → b ≡ true → (a || b) ≡ true
or_true true b h = refl
or_true false b h = h

-- what a line's labels say of one that is found among them
record IsHere (text : List ℕ) (address : ℕ) (names : List (List ℕ)) (found : ℕ) : Type 0 where
  at : found ≡ address
  has : list_any (λ name. bytes_eq name text) names ≡ true

found_here : (text : List ℕ) (address : ℕ) (names : List (List ℕ)) (found : ℕ)
    → named (map (λ name. (name, address)) names) text ≡ Some found → IsHere text address names found
found_here text address [] found h = absurd (cc)
found_here text address (name ∷ names) found h = by_test (bytes_eq text name) refl h (found_here text address names found) where
  by_test : (b : Bool) → bytes_eq text name ≡ b → named ((name, address) ∷ map (λ n. (n, address)) names) text ≡ Some found
      → (named (map (λ n. (n, address)) names) text ≡ Some found → IsHere text address names found)
      → IsHere text address (name ∷ names) found
  by_test true t h rest = let e = (rw t at h) in record { at = cc; has = rw (same_either_way text name t) refl }
  by_test false t h rest =
      let more = rest (rw t at h) in
      record { at = more.at; has = or_true (bytes_eq name text) (list_any (λ n. bytes_eq n text) names) more.has }

first_aligned : (limit : ℕ) (before : List Label) (p : Place) (later : Option ℕ) (found : ℕ) → misplaced limit before p ≡ None
    → (later ≡ Some found → found % 4 ≡ 0) → first_of (named (labels_at p) start) later ≡ Some found → found % 4 ≡ 0
first_aligned limit before p later found right rest h = by_here (named (labels_at p) start) refl h where
  by_here : (here : Option ℕ) → named (labels_at p) start ≡ here → first_of here later ≡ Some found → found % 4 ≡ 0
  by_here None e s = rest s
  by_here (Some address) e s =
      let is = found_here start p.address p.source.line.labels address e in
      let same : address ≡ found = cc in
      let aligned : is_aligned p.source.line ≡ true = or_true (not (words_at p.source.line.statement == 0))
      (list_any (λ name. bytes_eq name start) p.source.line.labels) is.has in
      subst (λ (n : ℕ). n % 4 ≡ 0) (sym is.at ∙ same) (multiple limit before p right aligned)

start_aligned : (limit : ℕ) (before : List Label) (address : ℕ) (program : List Source) (found : ℕ)
    → place_error limit before (places address program) ≡ None → named (labels_in (places address program)) start ≡ Some found
    → found % 4 ≡ 0
start_aligned limit before address [] found h s = absurd (cc)
start_aligned limit before address (source ∷ others) found h s =
    let later = labels_in (places (end_of_line source address) others) in
    let right = parted source.number (misplaced limit before (place address source))
    (place_error limit (before ++ labels_at (place address source)) (places (end_of_line source address) others)) h in
    let rest = start_aligned limit (before ++ labels_at (place address source)) (end_of_line source address) others found right.1 in
    first_aligned limit before (place address source) (named later start) found right.0 rest
    (sym (named-append (labels_at (place address source)) later start) ∙ s)

row_aligned : (rows : List Row) (end : ℕ) → RowsRise rows end → or_first (first_start rows) % 4 ≡ 0
row_aligned [] end h = refl
row_aligned (row ∷ rows) end h = h.aligned 0 row (omega arith)

entry_aligned : (labels : List Label) (rows : List Row) (end : ℕ) → ((found : ℕ) → named labels start ≡ Some found → found % 4 ≡ 0)
    → RowsRise rows end → entry_of labels rows % 4 ≡ 0
entry_aligned labels rows end f rise = by_start (named labels start) refl where
  by_start : (found : Option ℕ) → named labels start ≡ found → or_first (first_of found (first_start rows)) % 4 ≡ 0
  by_start (Some found) e = f found e
  by_start None e = row_aligned rows end rise

-- ---- both

no_place_error : (one other : Option AsmError) → first_of one other ≡ None → one ≡ None
no_place_error None other h = refl
no_place_error (Some error) other h = h

pub loadable : PlacedIsLoadable
loadable text size image p =
    let limit = memory_end size in
    let fine : place_error limit [] (placed p.program) ≡ None = no_place_error (place_error limit [] (placed p.program))
    (content_error (labels_in (placed p.program)) (placed p.program)) (sym (ap (error_by size) p.read) ∙ p.right) in
    let layout : IsLayout limit p.program (labels_in (placed p.program)) (rows_in (placed p.program))
    (end_of first_address p.program) = record {
      fits = fine;
      labels_are = refl;
      rows_are = refl;
      end_is = refl;
      within = within limit [] first_address p.program (omega arith) fine;
    } in
    let rise = rows_rise text limit p.program (labels_in (placed p.program)) (rows_in (placed p.program))
    (end_of first_address p.program) p.read layout in
    let aligned : entry_of (labels_in (placed p.program)) (rows_in (placed p.program)) % 4 ≡ 0 = entry_aligned
    (labels_in (placed p.program)) (rows_in (placed p.program)) (end_of first_address p.program)
    (λ found e. start_aligned limit [] first_address p.program found fine e) rise in
    record {
      fits =
          fits_so size image p.program (labels_in (placed p.program)) (rows_in (placed p.program))
          (end_of first_address p.program) image.bytes layout p.bytes refl;
      aligned = subst (λ (entry : ℕ). entry % 4 ≡ 0) (sym p.entry) aligned;
    }
