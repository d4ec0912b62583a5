-- The text that a JSON string represents is UTF-8, and has no more bytes than the string.
use Rattle.text_laws.proofs.Common.{[], and_parts, append-nil, append_assoc, arith, Bool, cond, drop_at, eqb-true, false, get_or, get_or_at, IsUtf8, leb-true, length, length-append, List, ltb-true, nat_le, nat_lt, nat_tests, None, Option, option_and_then, refl, Some, subst, sym, take_at, true, ℕ, ⊤, ◌&&◌, ◌++◌, ◌+◌, ◌<◌, ◌==◌, ◌∷◌, ◌≡◌, ◌≤◌}
use Rattle.std.proofs.lemmas.Str.{IsCharBoundary-after_ascii, IsCharBoundary-before_ascii, IsUtf8-append, IsUtf8-drop, IsUtf8-encode, IsUtf8-take, encode_ascii}
use Rattle.std.proofs.lemmas.Bool.{cond_both}
use Rattle.std.specs.Char.{digit_value, encode_utf8, is_digit}
use lib.Utf8.{low_scalar, scalar}
use Rattle.json.specs.Text.{Within, after_backslash, after_high, after_u, code_unit, content, is_high_surrogate, is_low_surrogate, plain, prepend, short_escape, surrogate_pair}

-- ---- where UTF-8 may be cut

-- before a byte of ASCII
pub text_before : (before after : List ℕ) (x : ℕ) → x < 128 → IsUtf8 (before ++ x ∷ after) → IsUtf8 before
text_before before after x small text =
    let whole = before ++ x ∷ after in
    let within : length before < length whole = omega (arith, length-append before (x ∷ after)) in
    let here : get_or whole (length before) 0 ≡ x = get_or_at before x after 0 (length before) refl in
    let cut = IsCharBoundary-before_ascii whole (length before) within (omega arith) in
    subst IsUtf8 (take_at before (x ∷ after) (length before) refl) (IsUtf8-take whole (length before) text cut)

-- and after it
pub text_after : (before after : List ℕ) (x : ℕ) → x < 128 → IsUtf8 (before ++ x ∷ after) → IsUtf8 after
text_after before after x small text =
    let whole = before ++ x ∷ after in
    let within : length before < length whole = omega (arith, length-append before (x ∷ after)) in
    let here : get_or whole (length before) 0 ≡ x = get_or_at before x after 0 (length before) refl in
    let cut = IsCharBoundary-after_ascii whole (length before) text within (omega arith) in
    let front = before ++ x ∷ [] in
    let same : front ++ after ≡ whole = append_assoc before (x ∷ []) after in
    let long : length front ≡ length before + 1 = omega (arith, length-append before (x ∷ [])) in
    subst IsUtf8 (rw (← same) (drop_at front after (length before + 1) long)) (IsUtf8-drop whole (length before + 1) text cut)

-- ---- escapes

-- a byte of ASCII is a text
IsUtf8-byte : (x : ℕ) → x < 128 → IsUtf8 (x ∷ [])
IsUtf8-byte x small = subst IsUtf8 (encode_ascii x small) (IsUtf8-encode x (low_scalar x (omega arith)))

-- a short escape represents a byte of ASCII, and its letter is one, too
short_ascii : (x c : ℕ) → short_escape x ≡ Some c → (x < 128) × (c < 128)
unfolding short_escape
short_ascii x c found = (grind (arith, nat_tests, found), grind (arith, nat_tests, found))

-- so is a digit
digit_ascii : (x : ℕ) → is_digit x 16 ≡ true → x < 128
digit_ascii x digit = grind (arith, nat_tests, digit)

found_if : (b : Bool) (here u : ℕ) → cond b (Some here) None ≡ Some u → (b ≡ true) × (here ≡ u)
found_if true here u found = let same : here ≡ u = cc in (refl, same)
found_if false here u found = absurd cc

-- four digits, and the code unit that they spell
record AreDigits (a b c d u : ℕ) : Type 0 where
  first : a < 128
  second : b < 128
  third : c < 128
  fourth : d < 128
  unit : u < 65536

four_digits : (a b c d u : ℕ) → code_unit a b c d ≡ Some u → AreDigits a b c d u
unfolding code_unit
four_digits a b c d u found =
    let digits = found_if (is_digit a 16 && is_digit b 16 && is_digit c 16 && is_digit d 16) _ u found in
    let last = and_parts (is_digit a 16 && is_digit b 16 && is_digit c 16) (is_digit d 16) digits.0 in
    let third = and_parts (is_digit a 16 && is_digit b 16) (is_digit c 16) last.0 in
    let first = and_parts (is_digit a 16) (is_digit b 16) third.0 in
    let small : (x : ℕ) → is_digit x 16 ≡ true → digit_value x < 16 = λ x h. ltb-true (digit_value x) 16 h in
    record {
      first = digit_ascii a first.0;
      second = digit_ascii b first.1;
      third = digit_ascii c third.1;
      fourth = digit_ascii d last.1;
      unit = omega (arith, digits.1, small a first.0, small b first.1, small c third.1, small d last.1);
    }

after_four : (a b c d : ℕ) (xs : List ℕ) {u : ℕ} → AreDigits a b c d u → IsUtf8 (a ∷ b ∷ c ∷ d ∷ xs) → IsUtf8 xs
after_four a b c d xs digits text =
    text_after [] xs d digits.fourth
    (text_after [] (d ∷ xs) c digits.third
    (text_after [] (c ∷ d ∷ xs) b digits.second (text_after [] (b ∷ c ∷ d ∷ xs) a digits.first text)))

-- ---- the content of a string

-- what comes after some bytes, where anything does, makes a text with them, and has at most this many bytes
abbrev pub Continues : List ℕ → ℕ → Option (List ℕ) → Type 0
Continues before most None = ⊤
Continues before most (Some s) = IsUtf8 (before ++ s) × (length s ≤ most)

-- what is still to be read makes a text with the bytes before it, or is one, where the bytes before it are
abbrev Stands : Within → List ℕ → List ℕ → Type 0
Stands plain before rest = IsUtf8 (before ++ rest)
Stands after_backslash before rest = IsUtf8 before × IsUtf8 rest
Stands after_u before rest = IsUtf8 before × IsUtf8 rest
Stands (after_high h) before rest = IsUtf8 before × IsUtf8 rest × (is_high_surrogate h ≡ true)

then : (before : List ℕ) (most : ℕ) (f : ℕ → Option (List ℕ)) (found : Option ℕ)
    → ((u : ℕ) → found ≡ Some u → Continues before most (f u)) → Continues before most (option_and_then f found)
then before most f None h = tt
then before most f (Some u) h = h u refl

more : (before : List ℕ) (few most : ℕ) (r : Option (List ℕ)) → few ≤ most → Continues before few r → Continues before most r
more before few most None le h = tt
more before few most (Some s) le h = (h.0, omega arith)

-- bytes that are read go before what follows
longer : (before a : List ℕ) (few most : ℕ) (r : Option (List ℕ)) → length a + few ≤ most → Continues (before ++ a) few r
    → Continues before most (prepend a r)
longer before a few most None le h = tt
longer before a few most (Some s) le h =
    (subst IsUtf8 (append_assoc before a s) h.0, omega (arith, length-append a s))

-- a character goes before a text
character : (before rest : List ℕ) (c most : ℕ) → scalar c ≡ true → IsUtf8 before → IsUtf8 rest
    → length (encode_utf8 c) + length rest ≤ most
    → (IsUtf8 ((before ++ encode_utf8 c) ++ rest) → Continues (before ++ encode_utf8 c) (length rest) (content plain rest))
    → Continues before most (prepend (encode_utf8 c) (content plain rest))
character before rest c most is_scalar first last le then_reads =
    longer before (encode_utf8 c) (length rest) most (content plain rest) le
    (then_reads
    (IsUtf8-append (before ++ encode_utf8 c) rest (IsUtf8-append before (encode_utf8 c) first (IsUtf8-encode c is_scalar)) last))

length-encode : (u : ℕ) → length (encode_utf8 u) ≤ 4
unfolding encode_utf8
length-encode u = grind arith

no_surrogate : (u : ℕ) → u < 65536 → is_high_surrogate u ≡ false → is_low_surrogate u ≡ false → scalar u ≡ true
no_surrogate u small high low = grind (arith, nat_tests, high, low)

of_surrogates : (h l : ℕ) → is_high_surrogate h ≡ true → is_low_surrogate l ≡ true → scalar (surrogate_pair h l) ≡ true
of_surrogates h l high low =
    let p = and_parts (nat_le 0xd800 h) (nat_lt h 0xdc00) high in
    let q = and_parts (nat_le 0xdc00 l) (nat_lt l 0xe000) low in
    let top : h < 0xdc00 = ltb-true h 0xdc00 p.1 in
    let least : 0xd800 ≤ h = leb-true 0xd800 h p.0 in
    let last : l < 0xe000 = ltb-true l 0xe000 q.1 in
    let first : 0xdc00 ≤ l = leb-true 0xdc00 l q.0 in
    let above : 57344 ≤ surrogate_pair h l = omega arith in
    let below : surrogate_pair h l < 1114112 = omega arith in
    grind (arith, nat_tests, above, below)

pub content_text : (w : Within) (before rest : List ℕ) → Stands w before rest → Continues before (length rest) (content w rest)
unfolding content
content_text plain before [] h = tt
content_text plain before (x ∷ xs) h =
    let n = length (x ∷ xs) in
    cond_both (x == 34) _ _ (Continues before n)
    (λ quote. let small : x < 128 = omega (arith, eqb-true x 34 quote) in
    (subst IsUtf8 (sym (append-nil before)) (text_before before xs x small h), omega arith))
    (λ other. cond_both (x == 92) _ _ (Continues before n)
    (λ backslash. let small : x < 128 = omega (arith, eqb-true x 92 backslash) in
    more before (length xs) n _ (omega arith)
    (content_text after_backslash before xs (text_before before xs x small h, text_after before xs x small h)))
    (λ byte. cond_both (nat_lt x 32) _ _ (Continues before n) (λ control. tt) (λ printed.
    longer before (x ∷ []) (length xs) n _ (omega arith)
    (content_text plain (before ++ x ∷ []) xs (subst IsUtf8 (sym (append_assoc before (x ∷ []) xs)) h)))))
content_text after_backslash before [] h = tt
content_text after_backslash before (x ∷ xs) h =
    let n = length (x ∷ xs) in
    cond_both (x == 117) _ _ (Continues before n)
    (λ unit. let small : x < 128 = omega (arith, eqb-true x 117 unit) in
    more before (length xs) n _ (omega arith) (content_text after_u before xs (h.0, text_after [] xs x small h.1)))
    (λ other. then before n _ (short_escape x) (λ c found.
    let small = short_ascii x c found in
    let byte : IsUtf8 (c ∷ []) = IsUtf8-byte c small.1 in
    longer before (c ∷ []) (length xs) n _ (omega arith)
    (content_text plain (before ++ c ∷ []) xs
    (IsUtf8-append (before ++ c ∷ []) xs (IsUtf8-append before (c ∷ []) h.0 byte) (text_after [] xs x small.0 h.1)))))
content_text after_u before (a ∷ b ∷ c ∷ d ∷ xs) h =
    let n = length (a ∷ b ∷ c ∷ d ∷ xs) in
    then before n _ (code_unit a b c d) (λ u found.
    let digits = four_digits a b c d u found in
    let rest = after_four a b c d xs digits h.1 in
    cond_both (is_high_surrogate u) _ _ (Continues before n)
    (λ high. more before (length xs) n _ (omega arith) (content_text (after_high u) before xs (h.0, rest, high)))
    (λ not_high. cond_both (is_low_surrogate u) _ _ (Continues before n) (λ low. tt) (λ not_low.
    character before xs u n (no_surrogate u digits.unit not_high not_low) h.0 rest (omega (arith, length-encode u))
    (content_text plain (before ++ encode_utf8 u) xs))))
content_text (after_high high) before (s ∷ u ∷ a ∷ b ∷ c ∷ d ∷ xs) h =
    let n = length (s ∷ u ∷ a ∷ b ∷ c ∷ d ∷ xs) in
    cond_both ((s == 92) && (u == 117)) _ _ (Continues before n)
    (λ escape. let marks = and_parts (s == 92) (u == 117) escape in
    let first : s < 128 = omega (arith, eqb-true s 92 marks.0) in
    let second : u < 128 = omega (arith, eqb-true u 117 marks.1) in
    let unit = text_after [] (a ∷ b ∷ c ∷ d ∷ xs) u second (text_after [] (u ∷ a ∷ b ∷ c ∷ d ∷ xs) s first h.1) in
    then before n _ (code_unit a b c d) (λ l found.
    let rest = after_four a b c d xs (four_digits a b c d l found) unit in
    cond_both (is_low_surrogate l) _ _ (Continues before n)
    (λ low. character before xs (surrogate_pair high l) n (of_surrogates high l h.2 low) h.0 rest
    (omega (arith, length-encode (surrogate_pair high l))) (content_text plain (before ++ encode_utf8 (surrogate_pair high l)) xs))
    (λ not_low. tt))) (λ other. tt)
content_text _ before _ h = tt
