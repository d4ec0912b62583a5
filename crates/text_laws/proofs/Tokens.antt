-- Each text of a token is in the bytes that it was read from, and there are about as many tokens as bytes at most.
use Rattle.text_laws.proofs.Common.{[], AllByRecursion, nat_tests, append_assoc, arith, Bool, cond, drop, eqb-true, false, IfSome, IsTextWithin, IsUtf8, length, List, nat_eq, None, Option, refl, Some, starts_with, subst, suc, sym, true, ℕ, ⊤, ◌&&◌, ◌++◌, ◌+◌, ◌==◌, ◌∷◌, ◌≡◌, ◌≤◌}
use Rattle.json.specs.Ascii as ascii
use Rattle.json.specs.Lex.{Class, Lexeme, Mode, Place, after_comma, after_key, after_value, backslash, begins_colon, between, class, colon, comma, fresh, if_allowed, in_escape, in_string, in_word, lex, lex_byte, may_begin, operator, operator_lexeme, other, place_token, punctuate, quote, space, string_token, token, tokens}
use Rattle.json.specs.Text.{content, plain}
use Rattle.json.specs.Token.{Token}
use Rattle.json.specs.Word.{after_number, ends_word, head, is_operator, is_space, literal, number_before, word}
use Rattle.text_laws.proofs.Strings.{Continues, content_text, text_after}

-- the text of a token, if it has one, has at most this many bytes
abbrev pub HasText : ℕ → Token → Type 0
HasText most (Token.key s) = IsTextWithin most s
HasText most (Token.string s) = IsTextWithin most s
HasText most _ = ⊤

-- the same of each of them
abbrev pub HaveTexts : ℕ → List Token → Type 0
HaveTexts most ts = AllByRecursion (HasText most) ts

-- ---- lexemes

-- the text of a lexeme, if it has one, has at most this many bytes
abbrev IsRead : ℕ → Lexeme → Type 0
IsRead most (token t) = HasText most t
IsRead most _ = ⊤

-- the same of each of them, and there are at most as many as this
abbrev AreRead : ℕ → ℕ → List Lexeme → Type 0
AreRead most count ls = AllByRecursion (IsRead most) ls × (length ls ≤ count)

pub either : {A : Type 0} (P : A → Type 0) (b : Bool) (x y : A) → P x → P y → P (cond b x y)
either P true x y h i = h
either P false x y h i = i

read_operator : (most x : ℕ) → IsRead most (operator_lexeme x)
read_operator most x =
    either (IsRead most) (x == ascii.open_brace) _ _ tt
    (either (IsRead most) (x == ascii.close_brace) _ _ tt
    (either (IsRead most) (x == ascii.open_bracket) _ _ tt
    (either (IsRead most) (x == ascii.close_bracket) _ _ tt (either (IsRead most) (x == ascii.comma) _ _ tt tt))))

text_before_rest : (most : ℕ) (t : List ℕ) (rest : Option (List ℕ)) → HasText most (number_before t rest)
text_before_rest most t None = tt
text_before_rest most t (Some rest) = either (HasText most) (ends_word rest) _ _ tt tt

text_literal : (most : ℕ) (name t : List ℕ) (value : Token) → HasText most value → HasText most (literal name value t)
text_literal most name t value h =
    either (HasText most) (starts_with nat_eq t name && ends_word (drop (length name) t)) value Token.bad h tt

-- a word has no text
text_word : (most : ℕ) (t : List ℕ) → HasText most (word t)
unfolding word
text_word most t =
    either (HasText most) (head t == ascii.lower_t) _ _ (text_literal most ascii.true_text t (Token.boolean true) tt)
    (either (HasText most) (head t == ascii.lower_f) _ _ (text_literal most ascii.false_text t (Token.boolean false) tt)
    (either (HasText most) (head t == ascii.lower_n) _ _ (text_literal most ascii.null_text t Token.null tt)
    (text_before_rest most t (after_number t))))

more : (most n : ℕ) (ls : List Lexeme) → AreRead most n ls → AreRead most (suc n) ls
more most n ls h = (h.0, omega (arith, h.1))

-- one more byte: at most one lexeme more
byte_read : (most n : ℕ) (m : Mode) (c : Class) (x : ℕ) (xs : List ℕ) (k : Mode → List Lexeme)
    → (c ≡ quote → HasText most (string_token (content plain xs))) → ((next : Mode) → AreRead most n (k next))
    → AreRead most (suc n) (lex_byte m c x xs k)
byte_read most n between quote x xs k text on = let h = on in_string in ((text refl, h.0), omega (arith, h.1))
byte_read most n between backslash x xs k text on = let h = on in_word in ((tt, h.0), omega (arith, h.1))
byte_read most n between operator x xs k text on = let h = on between in ((read_operator most x, h.0), omega (arith, h.1))
byte_read most n between space x xs k text on = more most n (k between) (on between)
byte_read most n between other x xs k text on = let h = on in_word in ((text_word most (x ∷ xs), h.0), omega (arith, h.1))
byte_read most n in_word operator x xs k text on = let h = on between in ((read_operator most x, h.0), omega (arith, h.1))
byte_read most n in_word space x xs k text on = more most n (k between) (on between)
byte_read most n in_word _ x xs k text on = more most n (k in_word) (on in_word)
byte_read most n in_string quote x xs k text on = more most n (k between) (on between)
byte_read most n in_string backslash x xs k text on = more most n (k in_escape) (on in_escape)
byte_read most n in_string _ x xs k text on = more most n (k in_string) (on in_string)
byte_read most n in_escape c x xs k text on = more most n (k in_string) (on in_string)

quote_is : (x : ℕ) → class x ≡ quote → x ≡ 34
quote_is x is = grind (arith, nat_tests, is)

within_more : (few most : ℕ) (found : Option (List ℕ)) → few ≤ most → IfSome found (IsTextWithin few)
    → HasText most (string_token found)
within_more few most None le h = tt
within_more few most (Some s) le h = (h.0, omega (arith, h.1))

-- a string that is whole
content_within : (xs : List ℕ) → IsUtf8 xs → IfSome (content plain xs) (IsTextWithin (length xs))
content_within xs utf8 = by (content plain xs) (content_text plain [] xs utf8) where
  by : (found : Option (List ℕ)) → Continues [] (length xs) found → IfSome found (IsTextWithin (length xs))
  by None h = tt
  by (Some s) h = h

lexed : (most : ℕ) (m : Mode) (before rest : List ℕ) → IsUtf8 (before ++ rest) → length rest ≤ most → AreRead most (length rest) (lex m rest)
unfolding lex
lexed most m before [] text within = (tt, omega arith)
lexed most m before (x ∷ xs) text within =
    byte_read most (length xs) m (class x) x xs (λ next. lex next xs)
    (λ is. let byte = quote_is x is in
    within_more (length xs) most (content plain xs) (omega arith) (content_within xs (text_after before xs x (omega arith) text)))
    (λ next. lexed most next (before ++ x ∷ []) xs (subst IsUtf8 (sym (append_assoc before (x ∷ []) xs)) text) (omega arith))

-- ---- commas and colons

-- the tokens of this many lexemes
abbrev Punctuated : ℕ → ℕ → List Token → Type 0
Punctuated most count ts = HaveTexts most ts × (length ts ≤ count + 1)

one_bad : (most count : ℕ) → Punctuated most count (Token.bad ∷ [])
one_bad most count = ((tt, tt), omega arith)

fewer : (most count : ℕ) (ts : List Token) → Punctuated most count ts → Punctuated most (suc count) ts
fewer most count ts h = (h.0, omega (arith, h.1))

allowed : (most count : ℕ) (b : Bool) (t : Token) (k : Place → List Token) (next : Place) → HasText most t
    → ((p : Place) → Punctuated most count (k p)) → Punctuated most (suc count) (if_allowed b t k next)
allowed most count true t k next text on = let h = on next in ((text, h.0), omega (arith, h.1))
allowed most count false t k next text on = one_bad most (suc count)

put_token : (most count : ℕ) (p : Place) (t : Token) (before_colon : Bool) (k : Place → List Token) → HasText most t
    → ((next : Place) → Punctuated most count (k next)) → Punctuated most (suc count) (place_token p t before_colon k)
put_token most count p (Token.key s) c k text on = one_bad most (suc count)
put_token most count p (Token.string s) true k text on = allowed most count (may_begin p) (Token.key s) k after_key text on
put_token most count p (Token.string s) false k text on = allowed most count (may_begin p) (Token.string s) k after_value text on
put_token most count p Token.bad c k text on = one_bad most (suc count)
put_token most count p _ c k text on = allowed most count _ _ k _ text on

punctuated : (most : ℕ) (p : Place) (ls : List Lexeme) → AllByRecursion (IsRead most) ls → Punctuated most (length ls) (punctuate p ls)
unfolding punctuate
punctuated most fresh [] h = (tt, omega arith)
punctuated most after_value [] h = (tt, omega arith)
punctuated most after_comma [] h = one_bad most 0
punctuated most after_key [] h = one_bad most 0
punctuated most p (token t ∷ ls) h =
    put_token most (length ls) p t (begins_colon ls) (λ next. punctuate next ls) h.0 (λ next. punctuated most next ls h.1)
punctuated most after_value (comma ∷ ls) h = fewer most (length ls) _ (punctuated most after_comma ls h.1)
punctuated most _ (comma ∷ ls) h = one_bad most (suc (length ls))
punctuated most after_key (colon ∷ ls) h = fewer most (length ls) _ (punctuated most fresh ls h.1)
punctuated most _ (colon ∷ ls) h = one_bad most (suc (length ls))

-- the tokens of a text
pub tokens_within : (text : List ℕ) → IsUtf8 text → HaveTexts (length text) (tokens text) × (length (tokens text) ≤ length text + 1)
tokens_within text utf8 =
    let read = lexed (length text) between [] text utf8 (omega arith) in
    let h = punctuated (length text) fresh (lex between text) read.0 in
    (h.0, omega (arith, h.1, read.1))
