-- A text is gone through byte by byte.
use Rattle.breakpoints.proofs.Common.{[], ap, append-nil, append_assoc, arith, Bool, cond, drop, drop_all, drop_more, false, get_or, get_or-drop, is_blank, is_lexeme, length, length-drop, lexemes, List, refl, SoFar, Spelled, Spells, subst, sym, take, take_more, Takes, Token, true, with_first, ℕ, ◌++◌, ◌+◌, ◌-◌, ◌<◌, ◌∙◌, ◌∷◌, ◌≡◌, ◌≤◌}

-- one more byte of what has begun
pub one_more : (s i : ℕ) (text : List ℕ) → s ≤ i → i < length text
    → take (i + 1 - s) (drop s text) ≡ take (i - s) (drop s text) ++ get_or text i 0 ∷ []
one_more s i text from h =
    let within : i - s < length (drop s text) = rw (length-drop s text) (omega arith) in
    let more : take ((i - s) + 1) (drop s text) ≡ take (i - s) (drop s text) ++ get_or (drop s text) (i - s) 0 ∷ [] = take_more
    (drop s text) (i - s) 0 within in
    let count : i + 1 - s ≡ (i - s) + 1 = omega arith in
    let place : s + (i - s) ≡ i = omega arith in
    let byte : get_or (drop s text) (i - s) 0 ≡ get_or text i 0 = get_or-drop s text (i - s) 0 ∙ ap (λ k. get_or text k 0) place in
    ap (λ n. take n (drop s text)) count ∙ more ∙ ap (λ b. take (i - s) (drop s text) ++ b ∷ []) byte

pub spelled_append : (tokens : List Token) (done : List (List ℕ)) (token : Token) (bytes : List ℕ) → Spelled tokens done
    → Spells token bytes → Spelled (tokens ++ token ∷ []) (done ++ bytes ∷ [])
spelled_append [] [] token bytes h s = (s, tt)
spelled_append [] (other ∷ done) token bytes h s = absurd h
spelled_append (first ∷ tokens) [] token bytes h s = absurd h
spelled_append (first ∷ tokens) (other ∷ done) token bytes h s = (h.0, spelled_append tokens done token bytes h.1 s)

-- what stands among lexemes is spelled by some token, where all are
spelled_there : (tokens : List Token) (done : List (List ℕ)) (bytes : List ℕ) (more : List (List ℕ)) → Spelled tokens (done ++ bytes ∷ more)
    → (token : Token) × Spells token bytes
spelled_there [] [] bytes more h = absurd h
spelled_there [] (other ∷ done) bytes more h = absurd h
spelled_there (first ∷ tokens) [] bytes more h = (first, h.0)
spelled_there (first ∷ tokens) (other ∷ done) bytes more h = spelled_there tokens done bytes more h.1

-- the lexeme continues with a byte
pub goes_on : (text : List ℕ) (tokens : List Token) (begun : List ℕ) (b : ℕ) (rest : List ℕ) → is_lexeme (begun ++ b ∷ []) ≡ true
    → SoFar text tokens begun (b ∷ rest) → SoFar text tokens (begun ++ b ∷ []) rest
goes_on text tokens begun b rest t h = record {
  done = h.done;
  spelled = h.spelled;
  left =
      h.left ∙ ap (λ (x : List (List ℕ)). h.done ++ x) (let e : lexemes begun (b ∷ rest) ≡ lexemes (begun ++ b ∷ []) rest = rw t refl in e);
}

abbrev pub begins_with : ℕ → List ℕ
begins_with b = cond (is_blank b) [] (b ∷ [])

-- it ends before a byte
pub lexemes_end : (begun : List ℕ) (b : ℕ) (rest : List ℕ) → is_lexeme (begun ++ b ∷ []) ≡ false
    → lexemes begun (b ∷ rest) ≡ with_first begun (lexemes (begins_with b) rest)
lexemes_end begun b rest t =
    let step : lexemes begun (b ∷ rest) ≡ with_first begun (cond (is_blank b) (lexemes [] rest) (lexemes (b ∷ []) rest)) = rw t refl in step
    ∙ ap (with_first begun) (go (is_blank b)) where
      go : (t : Bool) → cond t (lexemes [] rest) (lexemes (b ∷ []) rest) ≡ lexemes (cond t [] (b ∷ [])) rest
      go true = refl
      go false = refl

taken_so_far : (text : List ℕ) (old new : List Token) (begun : List ℕ) (done more : List (List ℕ)) → Spelled old done
    → lexemes [] text ≡ done ++ with_first begun more → Takes begun old new true
    → (all : List (List ℕ)) × (Spelled new all × (lexemes [] text ≡ all ++ more))
taken_so_far text old new [] done more s e h = (done, (subst (λ (x : List Token). Spelled x done) (sym h.1) s, e))
taken_so_far text old new (b ∷ bytes) done more s e h = (
  done ++ (b ∷ bytes) ∷ [],
  (
    subst (λ (x : List Token). Spelled x (done ++ (b ∷ bytes) ∷ [])) (sym h.1.0) (spelled_append old done h.0 (b ∷ bytes) s h.1.1),
    e
        ∙ sym (append_assoc done ((b ∷ bytes) ∷ []) more),
  ),
)

pub ends_before : (text : List ℕ) (old new : List Token) (begun : List ℕ) (b : ℕ) (rest : List ℕ) → is_lexeme (begun ++ b ∷ []) ≡ false
    → SoFar text old begun (b ∷ rest) → Takes begun old new true → SoFar text new (begins_with b) rest
ends_before text old new begun b rest t h took =
    let found = taken_so_far text old new begun h.done (lexemes (begins_with b) rest) h.spelled
    (h.left ∙ ap (λ (x : List (List ℕ)). h.done ++ x) (lexemes_end begun b rest t)) took in
    record { done = found.0; spelled = found.1.0; left = found.1.1 }

-- it spells nothing
untaken : (text : List ℕ) (old new : List Token) (begun : List ℕ) (done more : List (List ℕ))
    → lexemes [] text ≡ done ++ with_first begun more → Takes begun old new false → (tokens : List Token) → Spelled tokens (lexemes [] text)
    → ⊥
untaken text old new [] done more e h tokens s = let never : false ≡ true = h.0 in cc
untaken text old new (b ∷ bytes) done more e h tokens s =
    let found = spelled_there tokens done (b ∷ bytes) more (subst (λ (x : List (List ℕ)). Spelled tokens x) e s) in h found.0 found.1

pub fails_before : (text : List ℕ) (old new : List Token) (begun : List ℕ) (b : ℕ) (rest : List ℕ) → is_lexeme (begun ++ b ∷ []) ≡ false
    → SoFar text old begun (b ∷ rest) → Takes begun old new false → (tokens : List Token) → Spelled tokens (lexemes [] text) → ⊥
fails_before text old new begun b rest t h took =
    untaken text old new begun h.done (lexemes (begins_with b) rest)
    (h.left ∙ ap (λ (x : List (List ℕ)). h.done ++ x) (lexemes_end begun b rest t)) took

-- the end of the text
pub fails_at_end : (text : List ℕ) (old new : List Token) (begun : List ℕ) → SoFar text old begun [] → Takes begun old new false
    → (tokens : List Token) → Spelled tokens (lexemes [] text) → ⊥
fails_at_end text old new begun h took = untaken text old new begun h.done [] h.left took

pub ends : (text : List ℕ) (old new : List Token) (begun : List ℕ) → SoFar text old begun [] → Takes begun old new true
    → Spelled new (lexemes [] text)
ends text old new begun h took =
    let found = taken_so_far text old new begun h.done [] h.spelled h.left took in
    subst (λ (x : List (List ℕ)). Spelled new x) (sym (found.1.1 ∙ append-nil found.0)) found.1.0

-- where the next one starts
pub from_next : (s i : ℕ) (text : List ℕ) (t : Bool) → i < length text → s ≡ cond t (i + 1) i
    → take (i + 1 - s) (drop s text) ≡ cond t [] (get_or text i 0 ∷ [])
from_next s i text true h e =
    let none : i + 1 - s ≡ 0 = omega (arith, e) in ap (λ n. take n (drop s text)) none
from_next s i text false h e =
    let same : s ≡ i = e in
    let one : i + 1 - i ≡ 1 = omega arith in
    ap (λ k. take (i + 1 - k) (drop k text)) same ∙ ap (λ n. take n (drop i text)) one
    ∙ ap (λ (x : List ℕ). take 1 x) (drop_more text i 0 h)

-- ---- the same at an index

abbrev At : List ℕ → List Token → ℕ → ℕ → Type 0
At text tokens s i = SoFar text tokens (take (i - s) (drop s text)) (drop i text)

at_byte : (text : List ℕ) (tokens : List Token) (s i : ℕ) → i < length text → At text tokens s i
    → SoFar text tokens (take (i - s) (drop s text)) (get_or text i 0 ∷ drop (i + 1) text)
at_byte text tokens s i h so = subst (λ (x : List ℕ). SoFar text tokens (take (i - s) (drop s text)) x) (drop_more text i 0 h) so

pub kept_at : (text : List ℕ) (tokens : List Token) (s i : ℕ) → s ≤ i → i < length text → is_lexeme (take (i + 1 - s) (drop s text)) ≡ true
    → At text tokens s i → At text tokens s (i + 1)
kept_at text tokens s i from h t so =
    let e = one_more s i text from h in
    subst (λ (x : List ℕ). SoFar text tokens x (drop (i + 1) text)) (sym e)
    (goes_on text tokens (take (i - s) (drop s text)) (get_or text i 0) (drop (i + 1) text) (sym (ap is_lexeme e) ∙ t)
    (at_byte text tokens s i h so))

pub ended_at : (text : List ℕ) (old new : List Token) (s i n : ℕ) → s ≤ i → i < length text
    → is_lexeme (take (i + 1 - s) (drop s text)) ≡ false → At text old s i → Takes (take (i - s) (drop s text)) old new true
    → n ≡ cond (is_blank (get_or text i 0)) (i + 1) i → At text new n (i + 1)
ended_at text old new s i n from h t so took e =
    let x = one_more s i text from h in
    subst (λ (x : List ℕ). SoFar text new x (drop (i + 1) text)) (sym (from_next n i text (is_blank (get_or text i 0)) h e))
    (ends_before text old new (take (i - s) (drop s text)) (get_or text i 0) (drop (i + 1) text) (sym (ap is_lexeme x) ∙ t)
    (at_byte text old s i h so) took)

pub failed_at : (text : List ℕ) (old new : List Token) (s i : ℕ) → s ≤ i → i < length text
    → is_lexeme (take (i + 1 - s) (drop s text)) ≡ false → At text old s i → Takes (take (i - s) (drop s text)) old new false
    → (tokens : List Token) → Spelled tokens (lexemes [] text) → ⊥
failed_at text old new s i from h t so took =
    let x = one_more s i text from h in
    fails_before text old new (take (i - s) (drop s text)) (get_or text i 0) (drop (i + 1) text) (sym (ap is_lexeme x) ∙ t)
    (at_byte text old s i h so) took

pub at_end : (text : List ℕ) (tokens : List Token) (s i : ℕ) → i ≤ length text → length text ≤ i → At text tokens s i
    → SoFar text tokens (take (length text - s) (drop s text)) []
at_end text tokens s i most least so =
    let e : i ≡ length text = omega (arith, least) in
    subst (λ (x : List ℕ). SoFar text tokens (take (length text - s) (drop s text)) x) (drop_all (length text) text (omega arith))
    (subst (At text tokens s) e so)

pub next_within : (i n : ℕ) (t : Bool) → n ≡ cond t (i + 1) i → n ≤ i + 1
next_within i n true e = omega (arith, e)
next_within i n false e = omega (arith, e)
