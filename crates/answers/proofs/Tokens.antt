-- The token that bytes spell is found among those that they may spell.
use Rattle.answers.proofs.Common.{[], And, and_from, and_others, and_parts, AndThen, ap, arith, Bool, both_ways, cond, eqb-true, Equal, Err, false, find, Greater, GreaterEqual, Infix, inl, inr, is_number, Less, LessEqual, List, lt-ltb, ltb, ltb-true, magnitude, Minus, names, nat_tests, None, NotEqual, NumeralError, Ok, Option, Or, or_left, or_right, OrElse, Plus, refl, registers_below, Result, Round, ShiftLeft, ShiftRight, signs, Some, Spells, spells, Square, subst, suc, sym, Times, Token, true, with_number, Xor, zero, ℕ, ⊤, ◌&&◌, ◌<◌, ◌==◌, ◌||◌, ◌∙◌, ◌∷◌, ◌≡◌, ◌≤◌, ◌⊎◌}
use Rattle.std.proofs.Common.{codes}
use Rattle.std.proofs.lemmas.Slice.Eq.{bytes_eq-Decides}
use Rattle.std.specs.Str.{bytes_eq}
use Rattle.rv32i.specs.Names.{Names, name_of, numbered_name_of}
use Rattle.breakpoints.specs.Scanning.{Spelled}
use Rattle.breakpoints.specs.declared.token.Token.TheVariants as t
use Rattle.breakpoints.proofs.Lexemes.{either}
use Rattle.breakpoints.proofs.Words.{one_token}
use Rattle.answers.specs.Expressions.{token_of, tokens_of}

-- ---- tests

same_bytes : (xs ys : List ℕ) → bytes_eq xs ys ≡ true → xs ≡ ys
same_bytes xs ys h = (bytes_eq-Decides xs ys).0 h

tested : (xs ys : List ℕ) → xs ≡ ys → bytes_eq xs ys ≡ true
tested xs ys h = (bytes_eq-Decides xs ys).1 h

number_is : (found : Result ℕ NumeralError) (n : ℕ) → is_number found n ≡ true → found ≡ Ok n
number_is (Ok m) n h = ap (λ x. Ok x) (eqb-true m n h)
number_is (Err error) n h = cc

is_named : (bytes : List ℕ) (r : ℕ) → names bytes r ≡ true → Names bytes r
is_named bytes r h =
    let parts = and_parts (ltb r 32)
    (bytes_eq bytes (name_of r) || (bytes_eq bytes (numbered_name_of r) || (bytes_eq bytes (codes "fp") && (r == 8)))) h in
    let P : Type 0 = (bytes ≡ name_of r) ⊎ ((bytes ≡ numbered_name_of r) ⊎ ((bytes ≡ codes "fp") × (r ≡ 8))) in
    let any : P = elim (either (bytes_eq bytes (name_of r)) _ parts.1) as (λ _. P) [
      | inl e ↦ inl (same_bytes bytes (name_of r) e)
      | inr others ↦ elim (either (bytes_eq bytes (numbered_name_of r)) _ others) as (λ _. P) [
        | inl e ↦ inr (inl (same_bytes bytes (numbered_name_of r) e))
        | inr both ↦ let p =
            and_parts (bytes_eq bytes (codes "fp")) (r == 8) both in inr (inr (same_bytes bytes (codes "fp") p.0, eqb-true r 8 p.1))
      ]
    ] in
    (ltb-true r 32 parts.0, any)

names_it : (bytes : List ℕ) (r : ℕ) → Names bytes r → names bytes r ≡ true
names_it bytes r h =
    let P : Type 0 = (bytes_eq bytes (name_of r) || (bytes_eq bytes (numbered_name_of r) || (bytes_eq bytes (codes "fp") && (r == 8))))
    ≡ true in
    let any : P = elim h.1 as (λ _. P) [
      | inl e ↦ or_left _ _ (tested bytes (name_of r) e)
      | inr others ↦ elim others as (λ _. P) [
        | inl e ↦ or_right (bytes_eq bytes (name_of r)) _ (or_left _ _ (tested bytes (numbered_name_of r) e))
        | inr both ↦ or_right (bytes_eq bytes (name_of r)) _
            (or_right (bytes_eq bytes (numbered_name_of r)) _ (and_from _ _ (tested bytes (codes "fp") both.0) (same_number r both.1)))
      ]
    ] in
    and_from (ltb r 32) _ (lt-ltb r 32 h.0) any
  where
    same_number : (r : ℕ) → r ≡ 8 → (r == 8) ≡ true
    same_number r e = grind (arith, nat_tests)

-- the test is right
spelled : (bytes : List ℕ) (token : Token) → spells bytes token ≡ true → Spells token bytes
spelled bytes (t.Number n) h = number_is (magnitude bytes) n h
spelled bytes (t.Register r) h = is_named bytes r h
spelled bytes _ h = same_bytes bytes _ h

spells_number : (found : Result ℕ NumeralError) (n : ℕ) → found ≡ Ok n → is_number found n ≡ true
spells_number found n e = subst (λ (x : Result ℕ NumeralError). is_number x n ≡ true) (sym e) (same n) where
  same : (n : ℕ) → (n == n) ≡ true
  same n = grind (arith, nat_tests)

spells_it : (bytes : List ℕ) (token : Token) → Spells token bytes → spells bytes token ≡ true
spells_it bytes (t.Number n) h = spells_number (magnitude bytes) n h
spells_it bytes (t.Register r) h = names_it bytes r h
spells_it bytes _ h = tested bytes _ h

-- ---- what is found

found_passes : (p : Token → Bool) (tokens : List Token) (token : Token) → find p tokens ≡ Some token → p token ≡ true
found_passes p [] token e = cc
found_passes p (other ∷ tokens) token e =
    let P : Bool → Type 0 = λ v. p other ≡ v → cond v (Some other) (find p tokens) ≡ Some token → p token ≡ true in
    let go : P (p other) = elim (p other) as P [
      | true ↦ λ v f. ap p (same other token f) ∙ v
      | false ↦ λ v f. found_passes p tokens token f
    ] in go refl e
  where
    same : (other token : Token) → Some other ≡ Some token → token ≡ other
    same other token f = cc

-- where nothing is found, none passes
abbrev AllFail : (Token → Bool) → List Token → Type 0
AllFail p [] = ⊤
AllFail p (token ∷ tokens) = (p token ≡ false) × AllFail p tokens

none_passes : (p : Token → Bool) (tokens : List Token) → find p tokens ≡ None → AllFail p tokens
none_passes p [] e = tt
none_passes p (other ∷ tokens) e =
    let P : Bool → Type 0 = λ v. p other ≡ v → cond v (Some other) (find p tokens) ≡ None → (p other ≡ false) × AllFail p tokens in
    let go : P (p other) = elim (p other) as P [
      | true ↦ λ v f. absurd (not_none other f)
      | false ↦ λ v f. (v, none_passes p tokens f)
    ] in go refl e
  where
    not_none : (other : Token) → Some other ≡ None → ⊥
    not_none other f = cc

after_registers : (p : Token → Bool) (k : ℕ) (others : List Token) → AllFail p (registers_below k others) → AllFail p others
after_registers p zero others f = f
after_registers p (suc k) others f = after_registers p k others f.1

register_fails : (p : Token → Bool) (k : ℕ) (others : List Token) (r : ℕ) → AllFail p (registers_below k others) → r < k
    → p (t.Register r) ≡ false
register_fails p zero others r f l = absurd (omega arith)
register_fails p (suc k) others r f l =
    let P : Bool → Type 0 = λ v. (r == k) ≡ v → p (t.Register r) ≡ false in
    let go : P (r == k) = elim (r == k) as P [
      | true ↦ λ v. let e : r ≡ k = eqb-true r k v in ap (λ x. p (t.Register x)) e ∙ f.0
      | false ↦ λ v. let below : r < k = grind (arith, nat_tests) in register_fails p k others r f.1 below
    ] in go refl

after_number : (p : Token → Bool) (found : Result ℕ NumeralError) (others : List Token) → AllFail p (with_number found others)
    → AllFail p others
after_number p (Ok n) others f = f.1
after_number p (Err error) others f = f

number_fails : (p : Token → Bool) (found : Result ℕ NumeralError) (others : List Token) (n : ℕ) → AllFail p (with_number found others)
    → found ≡ Ok n → p (t.Number n) ≡ false
number_fails p (Ok m) others n f e = let same : m ≡ n = cc in ap (λ x. p (t.Number x)) (sym same) ∙ f.0
number_fails p (Err error) others n f e = cc

infix_fails : (p : Token → Bool) (operator : Infix) → AllFail p signs → p (t.Infix operator) ≡ false
infix_fails p OrElse f = f.1.1.1.1.1.1.1.0
infix_fails p AndThen f = f.1.1.1.1.1.1.1.1.0
infix_fails p Or f = f.1.1.1.1.1.1.1.1.1.0
infix_fails p Xor f = f.1.1.1.1.1.1.1.1.1.1.0
infix_fails p And f = f.1.1.1.1.1.1.1.1.1.1.1.0
infix_fails p Equal f = f.1.1.1.1.1.1.1.1.1.1.1.1.0
infix_fails p NotEqual f = f.1.1.1.1.1.1.1.1.1.1.1.1.1.0
infix_fails p Less f = f.1.1.1.1.1.1.1.1.1.1.1.1.1.1.0
infix_fails p LessEqual f = f.1.1.1.1.1.1.1.1.1.1.1.1.1.1.1.0
infix_fails p Greater f = f.1.1.1.1.1.1.1.1.1.1.1.1.1.1.1.1.0
infix_fails p GreaterEqual f = f.1.1.1.1.1.1.1.1.1.1.1.1.1.1.1.1.1.0
infix_fails p ShiftLeft f = f.1.1.1.1.1.1.1.1.1.1.1.1.1.1.1.1.1.1.0
infix_fails p ShiftRight f = f.1.1.1.1.1.1.1.1.1.1.1.1.1.1.1.1.1.1.1.0
infix_fails p Plus f = f.1.1.1.1.1.1.1.1.1.1.1.1.1.1.1.1.1.1.1.1.0
infix_fails p Minus f = f.1.1.1.1.1.1.1.1.1.1.1.1.1.1.1.1.1.1.1.1.1.0
infix_fails p Times f = f.1.1.1.1.1.1.1.1.1.1.1.1.1.1.1.1.1.1.1.1.1.1.0

-- a token that bytes spell is among those that are tried
fails : (bytes : List ℕ) (k : ℕ) (token : Token) → 32 ≤ k → Spells token bytes
    → AllFail (spells bytes) (with_number (magnitude bytes) (registers_below k signs)) → spells bytes token ≡ false
fails bytes k (t.Number n) l h f = number_fails (spells bytes) (magnitude bytes) (registers_below k signs) n f h
fails bytes k (t.Register r) l h f =
    register_fails (spells bytes) k signs r (after_number (spells bytes) (magnitude bytes) (registers_below k signs) f)
    (omega (arith, h.0, l))
fails bytes k t.Pc l h f =
    (after_registers (spells bytes) k signs (after_number (spells bytes) (magnitude bytes) (registers_below k signs) f)).0
fails bytes k t.Tilde l h f =
    (after_registers (spells bytes) k signs (after_number (spells bytes) (magnitude bytes) (registers_below k signs) f)).1.0
fails bytes k t.Bang l h f =
    (after_registers (spells bytes) k signs (after_number (spells bytes) (magnitude bytes) (registers_below k signs) f)).1.1.0
fails bytes k (t.Open Round) l h f =
    (after_registers (spells bytes) k signs (after_number (spells bytes) (magnitude bytes) (registers_below k signs) f)).1.1.1.0
fails bytes k (t.Open Square) l h f =
    (after_registers (spells bytes) k signs (after_number (spells bytes) (magnitude bytes) (registers_below k signs) f)).1.1.1.1.0
fails bytes k (t.Close Round) l h f =
    (after_registers (spells bytes) k signs (after_number (spells bytes) (magnitude bytes) (registers_below k signs) f)).1.1.1.1.1.0
fails bytes k (t.Close Square) l h f =
    (after_registers (spells bytes) k signs (after_number (spells bytes) (magnitude bytes) (registers_below k signs) f)).1.1.1.1.1.1.0
fails bytes k (t.Infix operator) l h f =
    infix_fails (spells bytes) operator
    (after_registers (spells bytes) k signs (after_number (spells bytes) (magnitude bytes) (registers_below k signs) f))

found_among : (bytes : List ℕ) (k : ℕ) (token : Token) (found : Option Token) → 32 ≤ k → Spells token bytes
    → find (spells bytes) (with_number (magnitude bytes) (registers_below k signs)) ≡ found → found ≡ Some token
found_among bytes k token None l h e =
    absurd (both_ways (spells bytes token)
    (fails bytes k token l h (none_passes (spells bytes) (with_number (magnitude bytes) (registers_below k signs)) e))
    (spells_it bytes token h))
found_among bytes k token (Some other) l h e =
    ap (λ (x : Token). Some x)
    (one_token other token bytes
    (spelled bytes other (found_passes (spells bytes) (with_number (magnitude bytes) (registers_below k signs)) other e)) h)

-- ---- both directions

pub token_found : (bytes : List ℕ) (token : Token) → Spells token bytes → token_of bytes ≡ Some token
unfolding token_of
token_found bytes token h = found_among bytes 32 token (token_of bytes) (omega arith) h refl

pub token_spelled : (bytes : List ℕ) (token : Token) → token_of bytes ≡ Some token → Spells token bytes
unfolding token_of
token_spelled bytes token e =
    spelled bytes token (found_passes (spells bytes) (with_number (magnitude bytes) (registers_below 32 signs)) token e)

-- ---- of words and signs

pub tokens_found : (tokens : List Token) (lexemes : List (List ℕ)) → Spelled tokens lexemes → tokens_of lexemes ≡ Some tokens
tokens_found [] [] h = refl
tokens_found [] (bytes ∷ lexemes) h = absurd h
tokens_found (token ∷ tokens) [] h = absurd h
tokens_found (token ∷ tokens) (bytes ∷ lexemes) h =
    ap (λ x. and_others x (tokens_of lexemes)) (token_found bytes token h.0)
    ∙ ap (λ x. and_others (Some token) x) (tokens_found tokens lexemes h.1)

pub tokens_spelled : (lexemes : List (List ℕ)) (tokens : List Token) → tokens_of lexemes ≡ Some tokens → Spelled tokens lexemes
tokens_spelled [] [] e = tt
tokens_spelled [] (token ∷ tokens) e = cc
tokens_spelled (bytes ∷ lexemes) tokens e = parts tokens (token_of bytes) (tokens_of lexemes) refl refl (tokens_spelled lexemes) e where
  parts : (tokens : List Token) (first : Option Token) (others : Option (List Token)) → token_of bytes ≡ first → tokens_of lexemes ≡ others
      → ((rest : List Token) → tokens_of lexemes ≡ Some rest → Spelled rest lexemes) → and_others first others ≡ Some tokens
      → Spelled tokens (bytes ∷ lexemes)
  parts tokens None others a b on f = cc
  parts tokens (Some token) None a b on f = cc
  parts [] (Some token) (Some others) a b on f = cc
  parts (x ∷ tokens) (Some token) (Some others) a b on f =
      let one : token ≡ x = cc in
      let rest : others ≡ tokens = cc in
      (token_spelled bytes x (a ∙ ap (λ y. Some y) one), on tokens (b ∙ ap (λ y. Some y) rest))
