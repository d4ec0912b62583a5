-- The smallest frame of a body.
use Rattle.framing.proofs.Common.{[], append-nil, append_assoc, arith, codes, decimal, end_of_line, Field, Frame, is_ascii_digit, is_value_byte, length, length-append, List, minimal_frame, nat_tests, reading_of, refl, sym, true, with_body, ℕ, ◌++◌, ◌<◌, ◌^◌, ◌∷◌, ◌≡◌, ◌≤◌}
use Rattle.std.proofs.lemmas.Fmt.{decimal_nonempty, digits_decimal, digits_value-decimal, length-decimal-le}
use Rattle.framing.proofs.Digits.{are_digits}
use Rattle.framing.proofs.Fields.{all_from}
use Rattle.framing.proofs.Framing.{frame_first}

value_byte : (c : ℕ) → is_ascii_digit c ≡ true → is_value_byte c ≡ true
value_byte c h = grind (arith, nat_tests)

-- the one field of the smallest frame
abbrev length_field : List ℕ → Field
length_field digits = record { name = codes "Content-Length"; value = 32 ∷ digits }

abbrev minimal_head : List ℕ → List ℕ
minimal_head digits = codes "Content-Length: " ++ digits ++ end_of_line ++ end_of_line

pub minimal_is_frame : (limit : ℕ) (body : List ℕ) → limit < 2 ^ 32 → length body ≤ limit → Frame limit (minimal_frame body) body
minimal_is_frame limit body h small =
    let n : ℕ = length body in
    let fits : n < 2 ^ 64 = omega arith in
    let each = digits_decimal are_digits n fits in
    let few : length (decimal n) ≤ 10 = length-decimal-le 10 n (omega arith) (omega arith) fits in
    record {
      head = minimal_head (decimal n);
      spelled = refl;
      says = record {
        fields = length_field (decimal n) ∷ [];
        field = length_field (decimal n);
        spelled = simp append_assoc;
        each = rw (all_from is_ascii_digit is_value_byte value_byte (decimal n) each) refl;
        short = simp length-append (omega arith);
        once = refl;
        says = record {
          before = 32 ∷ [];
          digits = decimal n;
          after = [];
          spelled = sym (append-nil (32 ∷ decimal n));
          blank_before = refl;
          blank_after = refl;
          all_digits = each;
          some = decimal_nonempty n fits;
          few = few;
          number = sym (digits_value-decimal are_digits n fits);
        };
        within = small;
      };
    }

pub minimal_is_read : (limit : ℕ) (body more : List ℕ) → limit < 2 ^ 32 → length body ≤ limit
    → reading_of limit (minimal_frame body ++ more) ≡ with_body body (reading_of limit more)
minimal_is_read limit body more h small = frame_first limit (minimal_frame body) body more (minimal_is_frame limit body h small)
