-- Words, and what no token is spelled by.
use Rattle.breakpoints.proofs.Common.{and_parts, ap, Bool, Bracket, closing, codes, eqb-true, Err, false, IfSome, if◌then◌else◌, Infix, inl, inr, List, MatchOption, name_of, Names, names, None, numbered_name_of, numbered_names, Ok, opening, Option, OrElse, refl, Result, Round, sign_in, sign_of, Some, Spells, SpellsOrNot, Square, sym, Token, true, ℕ, ⊤, ◌&&◌, ◌==◌, ◌∙◌, ◌≡◌}
use Rattle.std.specs.List.{position}
use Rattle.byte_strings.proofs.Below.{all_below, all_below_at}
use Rattle.std.specs.Str.{bytes_eq}
use Rattle.numerals.specs.Numerals.{magnitude}
use Rattle.numerals.specs.declared.NumeralError.{NumeralError}
use Rattle.breakpoints.specs.declared.token.Token.TheVariants as t

-- each sign is found as its token
infix_found : (operator : Infix) → sign_in (sign_of operator) ≡ Some (t.Infix operator)
infix_found OrElse = refl
infix_found _ = refl

open_found : (bracket : Bracket) → sign_in (opening bracket) ≡ Some (t.Open bracket)
open_found Round = refl
open_found Square = refl

close_found : (bracket : Bracket) → sign_in (closing bracket) ≡ Some (t.Close bracket)
close_found Round = refl
close_found Square = refl

not_none : {A : Type 0} (o : Option A) (a : A) → o ≡ None → o ≡ Some a → ⊥
not_none o a n s = let e : None ≡ Some a = sym n ∙ s in cc

-- bytes that are no sign, not `pc`, no number and no register spell nothing
pub unspelled : (bytes : List ℕ) → sign_in bytes ≡ None → (bytes ≡ codes "pc" → ⊥) → ((n : ℕ) → magnitude bytes ≡ Ok n → ⊥)
    → ((r : ℕ) → Names bytes r → ⊥) → (token : Token) → Spells token bytes → ⊥
unspelled bytes sign pc number register (t.Number n) h = number n h
unspelled bytes sign pc number register (t.Register r) h = register r h
unspelled bytes sign pc number register t.Pc h = pc h
unspelled bytes sign pc number register (t.Infix operator) h =
    not_none (sign_in bytes) (t.Infix operator) sign (ap sign_in h ∙ infix_found operator)
unspelled bytes sign pc number register t.Tilde h = not_none (sign_in bytes) t.Tilde sign (ap sign_in h)
unspelled bytes sign pc number register t.Bang h = not_none (sign_in bytes) t.Bang sign (ap sign_in h)
unspelled bytes sign pc number register (t.Open bracket) h =
    not_none (sign_in bytes) (t.Open bracket) sign (ap sign_in h ∙ open_found bracket)
unspelled bytes sign pc number register (t.Close bracket) h =
    not_none (sign_in bytes) (t.Close bracket) sign (ap sign_in h ∙ close_found bracket)

-- the same, where a register was looked for last
pub word_or_not : (bytes : List ℕ) (found : Option Token) → sign_in bytes ≡ None → (bytes ≡ codes "pc" → ⊥)
    → ((n : ℕ) → magnitude bytes ≡ Ok n → ⊥) → IfSome found (λ token. Spells token bytes)
    → MatchOption found ((r : ℕ) → Names bytes r → ⊥) (λ token. ⊤) → SpellsOrNot bytes found
word_or_not bytes None sign pc number some none = unspelled bytes sign pc number none
word_or_not bytes (Some token) sign pc number some none = some

-- a test that each name passes, by trying all
pub named_passes : (p : List ℕ → Bool) → all_below 32 (λ n. p (name_of n) && p (numbered_name_of n)) ≡ true → p (codes "fp") ≡ true
    → (name : List ℕ) (r : ℕ) → Names name r → p name ≡ true
named_passes p all fp name r h =
    let both = and_parts (p (name_of r)) (p (numbered_name_of r))
    (all_below_at (λ n. p (name_of n) && p (numbered_name_of n)) 32 r all h.0) in
    let P : Type 0 = p name ≡ true in
    elim h.1 as (λ _. P) [
      | inl e ↦ ap p e ∙ both.0
      | inr others ↦ elim others as (λ _. P) [
        | inl e ↦ ap p e ∙ both.1
        | inr f ↦ ap p f.0 ∙ fp
      ]
    ]

-- ---- bytes spell one token at most: the one that they can spell is computed

number_or : Result ℕ NumeralError → Option Token → Option Token
number_or (Ok n) rest = Some (t.Number n)
number_or (Err error) rest = rest

register_or : Option ℕ → Option Token → Option Token
register_or None rest = rest
register_or (Some r) rest = Some (t.Register r)

register_of : List ℕ → Option ℕ
register_of bytes =
    if bytes_eq bytes (codes "fp") then Some 8 else first_of (position (λ name. bytes_eq bytes name) names)
    (position (λ name. bytes_eq bytes name) numbered_names) where
      first_of : Option ℕ → Option ℕ → Option ℕ
      first_of None other = other
      first_of (Some n) other = Some n

token_of : List ℕ → Option Token
token_of bytes =
    number_or (magnitude bytes) (if bytes_eq bytes (codes "pc") then Some t.Pc else register_or (register_of bytes) (sign_in bytes))

is_register : Option Token → ℕ → Bool
is_register (Some (t.Register m)) n = m == n
is_register other n = false

is_register_so : (found : Option Token) (n : ℕ) → is_register found n ≡ true → found ≡ Some (t.Register n)
unfolding is_register
is_register_so (Some (t.Register m)) n h = ap (λ x. Some (t.Register x)) (eqb-true m n h)
is_register_so None n h = cc
is_register_so (Some (t.Number m)) n h = cc
is_register_so (Some t.Pc) n h = cc
is_register_so (Some (t.Infix operator)) n h = cc
is_register_so (Some t.Tilde) n h = cc
is_register_so (Some t.Bang) n h = cc
is_register_so (Some (t.Open bracket)) n h = cc
is_register_so (Some (t.Close bracket)) n h = cc

registers_found : all_below 32 (λ n. is_register (token_of (name_of n)) n && is_register (token_of (numbered_name_of n)) n) ≡ true
unfolding all_below is_register token_of number_or register_or register_of
registers_found = refl

fp_found : token_of (codes "fp") ≡ Some (t.Register 8)
unfolding token_of number_or register_or register_of
fp_found = refl

register_found : (bytes : List ℕ) (r : ℕ) → Names bytes r → token_of bytes ≡ Some (t.Register r)
register_found bytes r h =
    let both = and_parts (is_register (token_of (name_of r)) r) (is_register (token_of (numbered_name_of r)) r)
    (all_below_at (λ n. is_register (token_of (name_of n)) n && is_register (token_of (numbered_name_of n)) n) 32 r registers_found h.0) in
    let P : Type 0 = token_of bytes ≡ Some (t.Register r) in
    elim h.1 as (λ _. P) [
      | inl e ↦ ap token_of e ∙ is_register_so (token_of (name_of r)) r both.0
      | inr others ↦ elim others as (λ _. P) [
        | inl e ↦ ap token_of e ∙ is_register_so (token_of (numbered_name_of r)) r both.1
        | inr f ↦ ap token_of f.0 ∙ fp_found ∙ ap (λ x. Some (t.Register x)) (sym f.1)
      ]
    ]

infix_only : (operator : Infix) → token_of (sign_of operator) ≡ Some (t.Infix operator)
unfolding token_of number_or register_or register_of
infix_only OrElse = refl
infix_only _ = refl

open_only : (bracket : Bracket) → token_of (opening bracket) ≡ Some (t.Open bracket)
unfolding token_of number_or register_or register_of
open_only Round = refl
open_only Square = refl

close_only : (bracket : Bracket) → token_of (closing bracket) ≡ Some (t.Close bracket)
unfolding token_of number_or register_or register_of
close_only Round = refl
close_only Square = refl

token_found : (token : Token) (bytes : List ℕ) → Spells token bytes → token_of bytes ≡ Some token
unfolding token_of number_or register_or register_of
token_found (t.Number n) bytes h =
    ap (λ found. number_or found (if bytes_eq bytes (codes "pc") then Some t.Pc else register_or (register_of bytes) (sign_in bytes))) h
token_found (t.Register r) bytes h = register_found bytes r h
token_found t.Pc bytes h = ap token_of h
token_found (t.Infix operator) bytes h = ap token_of h ∙ infix_only operator
token_found t.Tilde bytes h = ap token_of h
token_found t.Bang bytes h = ap token_of h
token_found (t.Open bracket) bytes h = ap token_of h ∙ open_only bracket
token_found (t.Close bracket) bytes h = ap token_of h ∙ close_only bracket

token_or : Token → Option Token → Token
token_or d None = d
token_or d (Some token) = token

pub one_token : (token other : Token) (bytes : List ℕ) → Spells token bytes → Spells other bytes → token ≡ other
unfolding token_or
one_token token other bytes a b = ap (token_or token) (sym (token_found token bytes a) ∙ token_found other bytes b)
