-- The last part of a path.
use Rattle.answers.proofs.Common.{[], ap, append_assoc, arith, Bool, cond, drop, drop_at_char, eqb, eqb-true, false, file_name, get_or, get_or-reverse, length, length-reverse, List, NoCharPasses-char, None, not, refl, reverse, reverse-append, reverse-reverse, suc, sym, take, take-append-drop, take_while, true, ℕ, ◌++◌, ◌-◌, ◌<◌, ◌∙◌, ◌∷◌, ◌≡◌, ◌≢◌}
use Rattle.std.specs.Str.Pattern.{RFindsChar, SplitsAroundMatch}
use Rattle.std.proofs.lemmas.List.Sums.{take_while-cons}

abbrev no_slash : ℕ → Bool
no_slash byte = not (eqb byte 47)

-- none of the bytes is a slash
abbrev pub HasNoSlash : List ℕ → Type 0
HasNoSlash bytes = (i : ℕ) → i < length bytes → get_or bytes i 0 ≢ 47

is_none : (byte : ℕ) → byte ≢ 47 → no_slash byte ≡ true
is_none byte other = by (eqb byte 47) refl where
  by : (b : Bool) → eqb byte 47 ≡ b → no_slash byte ≡ true
  by true e = absurd (other (eqb-true byte 47 e))
  by false e = ap not e

one_taken : (byte : ℕ) (bytes rest : List ℕ) → byte ≢ 47 → take_while no_slash bytes ≡ rest
    → take_while no_slash (byte ∷ bytes) ≡ byte ∷ rest
one_taken byte bytes rest other e =
    take_while-cons no_slash byte bytes
    ∙ ap (λ (b : Bool). cond b (byte ∷ take_while no_slash bytes) []) (is_none byte other)
    ∙ ap (λ (l : List ℕ). byte ∷ l) e

up_to_slash : (bytes after : List ℕ) → HasNoSlash bytes → take_while no_slash (bytes ++ 47 ∷ after) ≡ bytes
up_to_slash [] after none = take_while-cons no_slash 47 after
up_to_slash (byte ∷ bytes) after none =
    one_taken byte (bytes ++ 47 ∷ after) bytes (none 0 (omega arith)) (up_to_slash bytes after (λ i h. none (suc i) (omega (arith, h))))

all_taken : (bytes : List ℕ) → HasNoSlash bytes → take_while no_slash bytes ≡ bytes
all_taken [] none = refl
all_taken (byte ∷ bytes) none = one_taken byte bytes bytes (none 0 (omega arith)) (all_taken bytes (λ i h. none (suc i) (omega (arith, h))))

none_reversed : (bytes : List ℕ) → HasNoSlash bytes → HasNoSlash (reverse bytes)
none_reversed bytes none i h e =
    let same : length (reverse bytes) ≡ length bytes = length-reverse bytes in
    let within : i < length bytes = omega (arith, h, same) in
    none (length bytes - 1 - i) (omega (arith, within)) (sym (get_or-reverse bytes i 0 within) ∙ e)

-- a path without a slash, and one with its last slash before a name
pub whole : (path : List ℕ) → HasNoSlash path → file_name path ≡ path
whole path none = ap reverse (all_taken (reverse path) (none_reversed path none)) ∙ reverse-reverse path

pub after_slash : (before name : List ℕ) → HasNoSlash name → file_name (before ++ 47 ∷ name) ≡ name
after_slash before name none =
    let split : reverse (before ++ 47 ∷ name) ≡ reverse name ++ 47 ∷ reverse before =
    ap reverse (sym (append_assoc before (47 ∷ []) name)) ∙ reverse-append (before ++ 47 ∷ []) name
    ∙ ap (λ (l : List ℕ). reverse name ++ l) (reverse-append before (47 ∷ [])) in
    ap (λ (l : List ℕ). reverse (take_while no_slash l)) split
    ∙ ap reverse (up_to_slash (reverse name) (reverse before) (none_reversed name none)) ∙ reverse-reverse name

-- as `rsplit_once` cuts it
pub cut : (path front name : List ℕ) → SplitsAroundMatch (RFindsChar 47) path front name → name ≡ file_name path
cut path front name h =
    let i = h.0 in
    let j = h.1 in
    let low : 47 < 128 = omega arith in
    let at : drop i path ≡ 47 ∷ drop j path = drop_at_char 47 path i j h.2.1 low in
    let is : path ≡ take i path ++ 47 ∷ drop j path = sym (take-append-drop i path) ∙ ap (λ (l : List ℕ). take i path ++ l) at in
    h.4 ∙ sym (ap file_name is ∙ after_slash (take i path) (drop j path) (λ k below. NoCharPasses-char 47 (drop j path) k h.2.0 low below))

pub uncut : (path : List ℕ) → RFindsChar 47 path None → path ≡ file_name path
uncut path h = sym (whole path (λ k below. NoCharPasses-char 47 path k h (omega arith) below))
