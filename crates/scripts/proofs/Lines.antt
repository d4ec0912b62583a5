-- The lines that say events are read as these.
use Rattle.scripts.proofs.Common.{[], after_header, AllDigits, ap, arith, body_if, Bool, bytes_eq, can_end_line, codes, coming, Connect, decimal, decimal_is_IsNumeral, digit_value, DropConnection, false, get_or, get_or-append_right, has_line, Hold, if◌then◌else◌, in_one_line, is_digit, IsInRange, length, length-append, line_of, List, list_all, moves, nat_le, nat_tests, None, not, piece_line, Recv, refl, sending, Sent, Slice, slice_index, small, Some, Step, step_of, strip_carriage_return, suc, sym, taken, true, Turn, wide, ℕ, ◌%◌, ◌&&◌, ◌++◌, ◌-◌, ◌/◌, ◌<◌, ◌==◌, ◌^◌, ◌∙◌, ◌∷◌, ◌≡◌}
use Rattle.std.proofs.Common.{position}
use Rattle.std.proofs.lemmas.List.Folds.{list_all_at}
use Rattle.std.proofs.lemmas.Slice.Eq.{bytes_eq-Decides}
use Rattle.byte_strings.proofs.Below.{all_below, all_below_at}
use Rattle.byte_strings.proofs.Conjunctions.{all_append, and_both, and_left, and_right}
use Rattle.framing.specs.Frames.{minimal_frame}
use Rattle.hex.proofs.HexLemmas.{decode_of-encode_lower}
use Rattle.hex.specs.Hex.{IsBytes, encode_lower, encode_with, lower_digits}
use Rattle.scripts.proofs.Digits.{fits}

pub turned : (t : Bool) → not t ≡ true → t ≡ false
turned true h = sym h
turned false h = refl

-- a line that stays one, and is read as it was written
pub record Stays (line : List ℕ) : Type 0 where
  pub one : in_one_line line ≡ true
  pub whole : strip_carriage_return line ≡ line

-- ---- texts with which a line can end

-- neither a line feed nor a carriage return
abbrev plain : ℕ → Bool
plain b = not (b == 10) && not (b == 13)

at_last : (text : List ℕ) → 0 < length text → list_all plain text ≡ true → plain (slice_index text (length text - 1)) ≡ true
at_last text some h =
    let P : Bool → Type 0 = λ t. plain (get_or text (length text - 1) 0) ≡ t → plain (slice_index text (length text - 1)) ≡ true in
    let go : P (plain (get_or text (length text - 1) 0)) = elim (plain (get_or text (length text - 1) 0)) as P [
      | true ↦ λ t. t
      | false ↦ λ t. let no : list_all plain text ≡ false = list_all_at plain text (length text - 1) 0 (omega arith) t in cc
    ] in go refl

in_line : (text : List ℕ) → list_all plain text ≡ true → in_one_line text ≡ true
in_line [] h = refl
in_line (b ∷ text) h =
    and_both _ _ (and_left (not (b == 10)) _ (and_left (plain b) _ h)) (in_line text (and_right (plain b) _ h))

plain_ends : (text : List ℕ) → 0 < length text → list_all plain text ≡ true → can_end_line text ≡ true
plain_ends text some h =
    let filled : not (length text == 0) ≡ true = grind (arith, nat_tests) in
    let last : not (slice_index text (length text - 1) == 13) ≡ true = and_right (not (slice_index text (length text - 1) == 10)) _
    (at_last text some h) in
    and_both _ _ (and_both _ _ filled last) (in_line text h)

-- what such a text says
pub record CanEnd (text : List ℕ) : Type 0 where
  pub some : 0 < length text
  pub last : (slice_index text (length text - 1) == 13) ≡ false
  pub one : in_one_line text ≡ true

pub can_end : (text : List ℕ) → can_end_line text ≡ true → CanEnd text
can_end text h =
    let both = and_left (not (length text == 0) && not (slice_index text (length text - 1) == 13)) _ h in
    let filled : not (length text == 0) ≡ true = and_left (not (length text == 0)) _ both in
    record {
      some = grind (arith, nat_tests);
      last = turned _ (and_right (not (length text == 0)) _ both);
      one = and_right (not (length text == 0) && not (slice_index text (length text - 1) == 13)) _ h;
    }

-- a word and such a text are one
pub word_ends : (word text : List ℕ) → in_one_line word ≡ true → can_end_line text ≡ true → can_end_line (word ++ text) ≡ true
word_ends word text h ends =
    let c = can_end text ends in
    let size = length-append word text in
    let last : slice_index (word ++ text) (length (word ++ text) - 1) ≡ slice_index text (length text - 1) =
    get_or-append_right word text (length (word ++ text) - 1) 0 (omega (arith, size, c.some))
    ∙ ap (λ (i : ℕ). get_or text i 0) (omega (arith, size, c.some)) in
    let no : (slice_index (word ++ text) (length (word ++ text) - 1) == 13) ≡ false = ap (λ (b : ℕ). b == 13) last ∙ c.last in
    let some : 0 < length (word ++ text) = omega (arith, size, c.some) in
    let filled : not (length (word ++ text) == 0) ≡ true = grind (arith, nat_tests) in
    and_both _ _ (and_both _ _ filled (ap not no)) (all_append _ word text h c.one)

-- and stay one line
pub word_stays : (word text : List ℕ) → in_one_line word ≡ true → can_end_line text ≡ true → Stays (word ++ text)
word_stays word text h ends =
    let c = can_end (word ++ text) (word_ends word text h ends) in record { one = c.one; whole = rw c.last refl }

-- ---- numbers

digits_plain : (digits : List ℕ) → AllDigits 10 digits → list_all plain digits ≡ true
digits_plain [] h = refl
digits_plain (d ∷ digits) h = and_both _ _ (one d h.0) (digits_plain digits h.1) where
  one : (c : ℕ) → digit_value c < 10 → plain c ≡ true
  one c h = grind (arith, nat_tests)

are_digits : (digits : List ℕ) → AllDigits 10 digits → list_all (λ c. is_digit c 10) digits ≡ true
are_digits [] h = refl
are_digits (d ∷ digits) h = and_both _ _ (one d h.0) (are_digits digits h.1) where
  one : (c : ℕ) → digit_value c < 10 → is_digit c 10 ≡ true
  one c h = grind (arith, nat_tests)

pub number_ends : (n : ℕ) → n < 2 ^ 64 → can_end_line (decimal n) ≡ true
number_ends n h = let d = decimal_is_IsNumeral n h in plain_ends (decimal n) d.0.0 (digits_plain (decimal n) d.0.1)

is_number : (n : ℕ) → n < 2 ^ 64 → (not (length (decimal n) == 0) && list_all (λ c. is_digit c 10) (decimal n)) ≡ true
is_number n h =
    let d = decimal_is_IsNumeral n h in
    let some : 0 < length (decimal n) = d.0.0 in
    and_both _ _ (grind (arith, nat_tests)) (are_digits (decimal n) d.0.1)

pub small_back : (n : ℕ) → n < 2 ^ 32 → small (decimal n) ≡ Some n
small_back n h =
    let d = decimal_is_IsNumeral n (omega arith) in
    let t = is_number n (omega arith) in
    let few : nat_le n 4294967295 ≡ true = grind (arith, nat_tests) in
    rw (t, d.1, few) refl

pub wide_back : (n : ℕ) → n < 2 ^ 64 → wide (decimal n) ≡ Some n
wide_back n h = let d = decimal_is_IsNumeral n h in let t = is_number n h in rw (t, d.1) (sym (fits n h))

-- ---- bytes

hex_plain_at : (k : ℕ) → k < 16 → plain (slice_index lower_digits k) ≡ true
unfolding all_below
hex_plain_at k h = all_below_at (λ (n : ℕ). plain (slice_index lower_digits n)) 16 k refl h

hex_plain : (bytes : List ℕ) → IsBytes bytes → list_all plain (encode_lower bytes) ≡ true
unfolding encode_with
hex_plain [] h = refl
hex_plain (b ∷ bytes) h =
    let fits : b < 256 = h 0 in
    and_both _ _ (hex_plain_at (b / 16) (omega arith))
    (and_both _ _ (hex_plain_at (b % 16) (omega arith)) (hex_plain bytes (λ i. h (suc i))))

hex_some : (bytes : List ℕ) → 0 < length bytes → 0 < length (encode_lower bytes)
unfolding encode_with
hex_some [] h = absurd (omega arith)
hex_some (b ∷ bytes) h = omega arith

hex_ends : (bytes : List ℕ) → IsBytes bytes → 0 < length bytes → can_end_line (encode_lower bytes) ≡ true
hex_ends bytes h some = plain_ends (encode_lower bytes) (hex_some bytes some) (hex_plain bytes h)

bytes_back : (bytes : List ℕ) → IsBytes bytes → 0 < length bytes → coming (encode_lower bytes) ≡ Some (Recv bytes)
bytes_back bytes h some =
    let filled = hex_some bytes some in
    let t : (length (encode_lower bytes) == 0) ≡ false = grind (arith, nat_tests) in
    rw (t, decode_of-encode_lower bytes h) refl

body_back : (body : List ℕ) → 0 < length body → sending body ≡ Some (Recv (minimal_frame body))
body_back body some = let t : (length body == 0) ≡ false = grind (arith, nat_tests) in rw t refl

-- ---- events

-- a line that stays one, and is read as the event
pub record Says (line : List ℕ) (step : Step) : Type 0 where
  pub stays : Stays line
  pub says : step_of line ≡ Some step

-- a piece that is the frame of this text, or that is not
piece_says : (bytes body : List ℕ) → IsBytes bytes → 0 < length bytes → Says (piece_line bytes (body_if bytes body)) (Recv bytes)
piece_says bytes body h some =
    let P : Bool → Type 0 = λ t. (can_end_line body && bytes_eq (minimal_frame body) bytes) ≡ t
    → Says (piece_line bytes (if t then Some body else None)) (Recv bytes) in
    let go : P (can_end_line body && bytes_eq (minimal_frame body) bytes) = elim
    (can_end_line body && bytes_eq (minimal_frame body) bytes) as P [
      | true ↦ λ t.
          let ends = and_left (can_end_line body) _ t in
          let same : minimal_frame body ≡ bytes = (bytes_eq-Decides (minimal_frame body) bytes).0 (and_right (can_end_line body) _ t) in
          record {
            stays = word_stays (codes "send ") body refl ends;
            says = body_back body (can_end body ends).some ∙ ap (λ (p : List ℕ). Some (Recv p)) same;
          }
      | false ↦ λ t. record {
        stays = word_stays (codes "bytes ") (encode_lower bytes) refl (hex_ends bytes h some);
        says = bytes_back bytes h some;
      }
    ] in go refl

file_back : (path : List ℕ) → IsInRange (Turn (Some path)) → can_end_line path ≡ true
    → step_of (codes "turn " ++ path) ≡ Some (Turn (Some path))
file_back path h ends =
    let some = (can_end path ends).some in
    let t : (length path == 0) ≡ false = grind (arith, nat_tests) in
    rw (t, h) refl

number_says : (n : ℕ) → n < 2 ^ 32 → Says (codes "slice " ++ decimal n) (Slice n)
number_says n h = record {
  stays = word_stays (codes "slice ") (decimal n) refl (number_ends n (omega arith));
  says = ap moves (small_back n h);
}

count_says : (n : ℕ) → n < 2 ^ 64 → Says (codes "sent " ++ decimal n) (Sent n)
count_says n h = record {
  stays = word_stays (codes "sent ") (decimal n) refl (number_ends n h);
  says = ap taken (wide_back n h);
}

pub says : (step : Step) → IsInRange step → has_line step ≡ true → Says (line_of step) step
says Connect h l = record { stays = record { one = refl; whole = refl }; says = refl }
says (Recv bytes) h l =
    let some : 0 < length bytes = grind (arith, nat_tests) in
    piece_says bytes (after_header bytes (position (λ b. b == 10) bytes)) h some
says (Turn None) h l = record { stays = record { one = refl; whole = refl }; says = refl }
says (Turn (Some path)) h l = record { stays = word_stays (codes "turn ") path refl l; says = file_back path h l }
says (Slice n) h l = number_says n h
says Hold h l = record { stays = record { one = refl; whole = refl }; says = refl }
says (Sent count) h l = count_says count h
says DropConnection h l = record { stays = record { one = refl; whole = refl }; says = refl }
