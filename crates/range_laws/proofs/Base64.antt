-- What a text in base64 is decoded to is bytes.
use Rattle.range_laws.proofs.Common.{[], All, All-append, All-cons, All-get_or, All-nil, All-set, All-take, AreBytes, arith, Bool, cond, eqb, Err, false, get_or_past, IfOk, IfSome, inl, inr, IsByte, length, List, lit<, ltb, nat_tests, None, Ok, Option, refl, Result, slice_index, slice_set, Some, subst, suc, sym, true, zero, ℕ, ◌%◌, ◌*◌, ◌+◌, ◌/◌, ◌<◌, ◌∷◌, ◌≡◌, ◌⊎◌}
use Rattle.std.specs.Result.{result_ok}
use Rattle.std.proofs.lemmas.Bool.{cases_lt}
use Rattle.base64.specs.Decode.{decode_error, decode_group, decode_outcome, decoded_bytes, group_bytes, group_error, groups_before_last, groups_bytes, groups_error, lone_error, no_leftover, or_else, push_leftover, scan_bytes, scan_last, scan_steps, suffix_bytes, suffix_error, symbol_error}
use Rattle.base64.specs.Engines.{standard}
use Rattle.base64.specs.GeneralPurpose.{decoded_of}
use Rattle.base64.specs.declared.decode.DecodeError.{DecodeError}
use Rattle.base64.specs.declared.decode.DecodeError.TheVariants.{InvalidByte}
use Rattle.base64.specs.declared.engine.DecodePaddingMode.{DecodePaddingMode}
use Rattle.base64.proofs.Tables.{IsDecodeTable_from, are_tables_inverse}

-- ---- symbols

-- six bits
abbrev IsSix : ℕ → Type 0
IsSix m = m < 64

-- each byte of a table has six bits or is 255, and so has what lies past it
abbrev IsTable : List ℕ → Type 0
IsTable dec = (x : ℕ) → (slice_index dec x ≡ 255) ⊎ IsSix (slice_index dec x)

standard_table : IsTable standard.decode_table
standard_table x = elim (cases_lt x 256) [
  | inl below ↦ IsDecodeTable_from standard.encode_table standard.decode_table
      (are_tables_inverse standard.encode_table standard.decode_table standard.padding.value standard.tables) x below
  | inr past ↦
      let none : slice_index standard.decode_table x ≡ 0 = get_or_past standard.decode_table x 0 past in
      inr (subst IsSix (sym none) (lit< tt))
]

six : (dec : List ℕ) (x : ℕ) → IsTable dec → eqb (slice_index dec x) 255 ≡ false → IsSix (slice_index dec x)
six dec x table other = elim (table x) [
  | inl none ↦ absurd (let same : eqb (slice_index dec x) 255 ≡ true = grind (arith, nat_tests, none) in cc)
  | inr bits ↦ bits
]

group_in_range : (a b c d : ℕ) → IsSix a → IsSix b → IsSix c → IsSix d → AreBytes (decode_group a b c d)
group_in_range a b c d h i j k =
    let first : IsByte (a * 4 + b / 16) = omega (arith, h, i) in
    let second : IsByte (b % 16 * 16 + c / 4) = omega (arith, j) in
    let third : IsByte (c % 4 * 64 + d) = omega (arith, k) in
    All-cons IsByte (a * 4 + b / 16) ((b % 16 * 16 + c / 4) ∷ (c % 4 * 64 + d) ∷ []) first
    (All-cons IsByte (b % 16 * 16 + c / 4) ((c % 4 * 64 + d) ∷ []) second
    (All-cons IsByte (c % 4 * 64 + d) [] third (All-nil IsByte)))

-- ---- whole groups

neither : (first later : Option DecodeError) → or_else first later ≡ None → (first ≡ None) × (later ≡ None)
neither None later h = (refl, h)
neither (Some e) later h = cc

symbol_six : (dec s : List ℕ) (i : ℕ) → IsTable dec → symbol_error dec s i ≡ None → IsSix (slice_index dec (slice_index s i))
symbol_six dec s i table = by (eqb (slice_index dec (slice_index s i)) 255) refl where
  by : (b : Bool) → eqb (slice_index dec (slice_index s i)) 255 ≡ b → cond b (Some (InvalidByte i (slice_index s i))) None ≡ None
      → IsSix (slice_index dec (slice_index s i))
  by true e h = cc
  by false e h = six dec (slice_index s i) table e

group_bytes_in_range : (dec s : List ℕ) (i : ℕ) → IsTable dec → group_error dec s i ≡ None → AreBytes (group_bytes dec s i)
group_bytes_in_range dec s i table h =
    let a = neither (symbol_error dec s i)
    (or_else (symbol_error dec s (i + 1)) (or_else (symbol_error dec s (i + 2)) (symbol_error dec s (i + 3)))) h in
    let b = neither (symbol_error dec s (i + 1)) (or_else (symbol_error dec s (i + 2)) (symbol_error dec s (i + 3))) a.1 in
    let c = neither (symbol_error dec s (i + 2)) (symbol_error dec s (i + 3)) b.1 in
    group_in_range _ _ _ _ (symbol_six dec s i table a.0) (symbol_six dec s (i + 1) table b.0) (symbol_six dec s (i + 2) table c.0)
    (symbol_six dec s (i + 3) table c.1)

groups_in_range : (dec s : List ℕ) (q : ℕ) → IsTable dec → groups_error dec s q ≡ None → AreBytes (groups_bytes dec s q)
unfolding groups_bytes groups_error
groups_in_range dec s zero table h = All-nil IsByte
groups_in_range dec s (suc q) table h =
    let both = neither (groups_error dec s q) (group_error dec s (4 * q)) h in
    All-append IsByte (groups_bytes dec s q) (group_bytes dec s (4 * q)) (groups_in_range dec s q table both.0)
    (group_bytes_in_range dec s (4 * q) table both.1)

-- ---- the last group

abbrev TypeOf : {A : Type 0} → A → Type 0
TypeOf {A = A} a = A

-- what is kept of it
abbrev Leftover : Type 0
Leftover = TypeOf no_leftover

abbrev HasSixes : Leftover → Type 0
HasSixes st = All IsSix st.morsels

-- if nothing is wrong
abbrev IfSixes : Result Leftover DecodeError → Type 0
IfSixes r = IfOk r HasSixes

push_sixes : (dec : List ℕ) (pad at : ℕ) (st : Leftover) (i b : ℕ) → IsTable dec → HasSixes st → IfSixes (push_leftover dec pad at st i b)
push_sixes dec pad at st i b table h = by_pad (eqb b pad) (ltb i 2) (ltb 0 st.padding_count) (eqb (slice_index dec b) 255) refl where
  by_pad : (is_pad early padded none : Bool) → eqb (slice_index dec b) 255 ≡ none → IfSixes (cond is_pad
      (cond early (Err (InvalidByte (at + i) b)) (Ok (record st {
        first_padding_offset = cond (eqb st.padding_count 0) i st.first_padding_offset;
        padding_count = st.padding_count + 1;
      })))
      (cond padded (Err (InvalidByte (at + st.first_padding_offset) pad))
      (cond none (Err (InvalidByte (at + i) b)) (Ok (record st {
        morsels = slice_set st.morsels st.morsels_count (slice_index dec b);
        morsels_count = st.morsels_count + 1;
        last_symbol = b;
        last_symbol_value = slice_index dec b;
      })))))
  by_pad true true padded none e = tt
  by_pad true false padded none e = h
  by_pad false early true none e = tt
  by_pad false early false true e = tt
  by_pad false early false false e = All-set IsSix st.morsels st.morsels_count (slice_index dec b) (six dec b table e) h

scan_sixes : (dec : List ℕ) (pad at : ℕ) (r : Result Leftover DecodeError) (i : ℕ) (bytes : List ℕ) → IsTable dec → IfSixes r
    → IfSixes (scan_steps dec pad at r i bytes)
unfolding scan_steps
scan_sixes dec pad at (Err e) i bytes table h = tt
scan_sixes dec pad at (Ok st) i [] table h = h
scan_sixes dec pad at (Ok st) i (b ∷ bytes) table h =
    scan_sixes dec pad at (push_leftover dec pad at st i b) (i + 1) bytes table (push_sixes dec pad at st i b table h)

morsel_six : (morsels : List ℕ) (i : ℕ) → All IsSix morsels → IsSix (slice_index morsels i)
morsel_six morsels i h = elim (cases_lt i (length morsels)) [
  | inl below ↦ All-get_or IsSix morsels i 0 below h
  | inr past ↦ let none : slice_index morsels i ≡ 0 = get_or_past morsels i 0 past in subst IsSix (sym none) (lit< tt)
]

leftover_in_range : (r : Result Leftover DecodeError) → IfSixes r → AreBytes (scan_bytes r)
leftover_in_range (Err e) h = All-nil IsByte
leftover_in_range (Ok st) h =
    let group = group_in_range _ _ _ _ (morsel_six st.morsels 0 h) (morsel_six st.morsels 1 h) (morsel_six st.morsels 2 h)
    (morsel_six st.morsels 3 h) in
    All-take IsByte (st.morsels_count * 6 / 8) _ group

no_sixes : HasSixes no_leftover
no_sixes =
    All-cons IsSix 0 (0 ∷ 0 ∷ 0 ∷ []) (lit< tt)
    (All-cons IsSix 0 (0 ∷ 0 ∷ []) (lit< tt) (All-cons IsSix 0 (0 ∷ []) (lit< tt) (All-cons IsSix 0 [] (lit< tt) (All-nil IsSix))))

suffix_in_range : (dec s : List ℕ) (pad at : ℕ) → IsTable dec → AreBytes (suffix_bytes dec pad at s)
suffix_in_range dec s pad at table = leftover_in_range (scan_last dec pad at s) (scan_sixes dec pad at (Ok no_leftover) 0 _ table no_sixes)

-- ---- a text

outcome_in_range : (error : Option DecodeError) (bytes : List ℕ) → (error ≡ None → AreBytes bytes)
    → IfSome (result_ok (decode_outcome error bytes)) AreBytes
outcome_in_range None bytes h = h refl
outcome_in_range (Some e) bytes h = tt

text_in_range : (dec s : List ℕ) (pad : ℕ) (allow : Bool) (mode : DecodePaddingMode) → IsTable dec
    → decode_error dec pad allow mode s ≡ None → AreBytes (decoded_bytes dec pad s)
text_in_range dec s pad allow mode table h =
    let q = groups_before_last (length s) in
    let first = neither (lone_error dec pad s) (or_else (groups_error dec s q) (suffix_error dec pad allow mode (4 * q) s)) h in
    let groups = neither (groups_error dec s q) (suffix_error dec pad allow mode (4 * q) s) first.1 in
    All-append IsByte (groups_bytes dec s q) (suffix_bytes dec pad (4 * q) s) (groups_in_range dec s q table groups.0)
    (suffix_in_range dec s pad (4 * q) table)

pub decoded_in_range : (text : List ℕ) → IfSome (decoded_of standard text) AreBytes
unfolding decoded_of
decoded_in_range text =
    outcome_in_range _ _
    (text_in_range standard.decode_table text standard.padding.value standard.config.decode_allow_trailing_bits standard.config.decode_padding_mode standard_table)
