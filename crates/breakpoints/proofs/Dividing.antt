-- A text divided by the rules, and as it is gone through.
use Rattle.breakpoints.proofs.Common.{[], AllBlank, and_parts, ap, append-nil, append_assoc, Bool, both_ways, cond, false, is_blank, is_lexeme, IsLongest, IsTokens, lexemes, List, refl, Spelled, Spells, subst, sym, Token, true, with_first, ℕ, ◌++◌, ◌∙◌, ◌∷◌, ◌≡◌, ◌≢◌}
use Rattle.breakpoints.proofs.Lexemes.{blank_is_none, lexeme_begins, token_lexeme}
use Rattle.breakpoints.proofs.Scanned.{begins_with, lexemes_end}

head_of : ℕ → List ℕ → ℕ
head_of d [] = d
head_of d (b ∷ text) = b

-- ---- what is gone through is divided by the rules

add_blank : (tokens : List Token) (b : ℕ) (rest : List ℕ) → is_blank b ≡ true → IsTokens tokens rest → IsTokens tokens (b ∷ rest)
add_blank [] b rest t h = rw t h
add_blank (token ∷ tokens) b rest t h = (
  h.0,
  (
    record {
      blanks = b ∷ h.1.0.blanks;
      bytes = h.1.0.bytes;
      blank = rw t h.1.0.blank;
      parts = ap (λ (x : List ℕ). b ∷ x) h.1.0.parts;
      longest = h.1.0.longest;
    },
    h.1.1,
  ),
)

ended_longest : (token : Token) (bytes : List ℕ) → Spells token bytes → IsLongest token bytes []
ended_longest token bytes s = record { spelled = s; longest = λ more after some e. none more after some e } where
  none : (more after : List ℕ) → more ≢ [] → [] ≡ more ++ after → is_lexeme (bytes ++ more) ≡ false
  none [] after some e = absurd (some refl)
  none (x ∷ more) after some e = cc

stopped_longest : (token : Token) (bytes : List ℕ) (b : ℕ) (rest : List ℕ) → Spells token bytes → is_lexeme (bytes ++ b ∷ []) ≡ false
    → IsLongest token bytes (b ∷ rest)
unfolding head_of
stopped_longest token bytes b rest s t = record { spelled = s; longest = λ more after some e. none more after some e } where
  none : (more after : List ℕ) → more ≢ [] → b ∷ rest ≡ more ++ after → is_lexeme (bytes ++ more) ≡ false
  none [] after some e = absurd (some refl)
  none (x ∷ more) after some e =
      let same : b ≡ x = ap (head_of 0) e in
      let P : Bool → Type 0 = λ v. is_lexeme (bytes ++ x ∷ more) ≡ v → v ≡ false in
      let go : P (is_lexeme (bytes ++ x ∷ more)) = elim (is_lexeme (bytes ++ x ∷ more)) as P [
        | true ↦ λ v. absurd
            (both_ways (is_lexeme (bytes ++ b ∷ [])) t (ap (λ y. is_lexeme (bytes ++ y ∷ [])) same ∙ lexeme_begins bytes x more v))
        | false ↦ λ v. refl
      ] in go refl

pub divides : (text begun : List ℕ) (tokens : List Token) → Spelled tokens (lexemes begun text) → IsTokens tokens (begun ++ text)
divides [] [] [] h = refl
divides [] [] (token ∷ tokens) h = absurd h
divides [] (b ∷ begun) [] h = absurd h
divides [] (b ∷ begun) (token ∷ []) h =
    ([], (record { blanks = []; bytes = b ∷ begun; blank = refl; parts = refl; longest = ended_longest token (b ∷ begun) h.0 }, refl))
divides [] (b ∷ begun) (token ∷ other ∷ tokens) h = absurd h.1
divides (b ∷ text) begun tokens h =
    let P : Bool → Type 0 = λ t. is_lexeme (begun ++ b ∷ []) ≡ t → IsTokens tokens (begun ++ b ∷ text) in
    let goes : is_lexeme (begun ++ b ∷ []) ≡ true → IsTokens tokens (begun ++ b ∷ text) = λ t.
    let step : lexemes begun (b ∷ text) ≡ lexemes (begun ++ b ∷ []) text = rw t refl in
    subst (IsTokens tokens) (append_assoc begun (b ∷ []) text)
    (divides text (begun ++ b ∷ []) tokens (subst (λ (x : List (List ℕ)). Spelled tokens x) step h)) in
    let rest : (others : List Token) → Spelled others (lexemes (begins_with b) text) → IsTokens others (b ∷ text) = λ others s.
    let Q : Bool → Type 0 = λ t. is_blank b ≡ t → Spelled others (lexemes (cond t [] (b ∷ [])) text) → IsTokens others (b ∷ text) in
    let go : Q (is_blank b) = elim (is_blank b) as Q [
      | true ↦ λ t x. add_blank others b text t (divides text [] others x)
      | false ↦ λ t x. divides text (b ∷ []) others x
    ] in go refl s in
    let stops : is_lexeme (begun ++ b ∷ []) ≡ false → IsTokens tokens (begun ++ b ∷ text) = λ t.
    ended begun tokens t (subst (λ (x : List (List ℕ)). Spelled tokens x) (lexemes_end begun b text t) h) rest in
    let go : P (is_lexeme (begun ++ b ∷ [])) = elim (is_lexeme (begun ++ b ∷ [])) as P [ true ↦ goes | false ↦ stops ] in
    go refl
  where
    ended : (begun : List ℕ) (tokens : List Token) → is_lexeme (begun ++ b ∷ []) ≡ false
        → Spelled tokens (with_first begun (lexemes (begins_with b) text))
        → ((others : List Token) → Spelled others (lexemes (begins_with b) text) → IsTokens others (b ∷ text))
        → IsTokens tokens (begun ++ b ∷ text)
    ended [] tokens t s rest = rest tokens s
    ended (a ∷ begun) [] t s rest = absurd s
    ended (a ∷ begun) (token ∷ tokens) t s rest = (
      b ∷ text,
      (
        record {
          blanks = [];
          bytes = a ∷ begun;
          blank = refl;
          parts = refl;
          longest = stopped_longest token (a ∷ begun) b text s.0 t;
        },
        rest tokens s.1,
      ),
    )

-- ---- what is divided by the rules is gone through so

-- blanks are passed over
skipped : (blanks text : List ℕ) → AllBlank blanks → lexemes [] (blanks ++ text) ≡ lexemes [] text
skipped [] text h = refl
skipped (b ∷ blanks) text h =
    let parts = and_parts (is_blank b) _ h in
    let none : is_lexeme (b ∷ []) ≡ false = blank_is_none b parts.0 in
    let step : lexemes [] (b ∷ blanks ++ text) ≡ lexemes [] (blanks ++ text) = rw none (rw parts.0 refl) in
    step ∙ skipped blanks text parts.1

-- a lexeme is gone through to its end
run : (p q rest : List ℕ) → is_lexeme (p ++ q) ≡ true → lexemes p (q ++ rest) ≡ lexemes (p ++ q) rest
run p [] rest h = ap (λ (x : List ℕ). lexemes x rest) (sym (append-nil p))
run p (c ∷ q) rest h =
    let t : is_lexeme (p ++ c ∷ []) ≡ true = lexeme_begins p c q h in
    let same : (p ++ c ∷ []) ++ q ≡ p ++ c ∷ q = append_assoc p (c ∷ []) q in
    let step : lexemes p (c ∷ q ++ rest) ≡ lexemes (p ++ c ∷ []) (q ++ rest) = rw t refl in
    step ∙ run (p ++ c ∷ []) q rest (ap is_lexeme same ∙ h) ∙ ap (λ (x : List ℕ). lexemes x rest) same

-- and the next one begins
restarted : (c : ℕ) (rest : List ℕ) → lexemes [] (c ∷ rest) ≡ lexemes (begins_with c) rest
restarted c rest =
    let P : Bool → Type 0 = λ t. is_lexeme (c ∷ []) ≡ t → lexemes [] (c ∷ rest) ≡ lexemes (begins_with c) rest in
    let goes : is_lexeme (c ∷ []) ≡ true → lexemes [] (c ∷ rest) ≡ lexemes (begins_with c) rest = λ t.
    let step : lexemes [] (c ∷ rest) ≡ lexemes (c ∷ []) rest = rw t refl in
    let Q : Bool → Type 0 = λ v. is_blank c ≡ v → lexemes (c ∷ []) rest ≡ lexemes (cond v [] (c ∷ [])) rest in
    let go : Q (is_blank c) = elim (is_blank c) as Q [
      | true ↦ λ v. absurd (both_ways (is_lexeme (c ∷ [])) (blank_is_none c v) t)
      | false ↦ λ v. refl
    ] in step ∙ go refl in
    let go : P (is_lexeme (c ∷ [])) = elim (is_lexeme (c ∷ [])) as P [ true ↦ goes | false ↦ λ t. lexemes_end [] c rest t ] in
    go refl

some_bytes : (bytes : List ℕ) (rest : List (List ℕ)) → is_lexeme bytes ≡ true → with_first bytes rest ≡ bytes ∷ rest
some_bytes [] rest h = cc
some_bytes (b ∷ bytes) rest h = refl

first_lexeme : (token : Token) (bytes rest : List ℕ) → IsLongest token bytes rest → lexemes bytes rest ≡ bytes ∷ lexemes [] rest
first_lexeme token bytes [] h = some_bytes bytes [] (token_lexeme token bytes h.spelled)
first_lexeme token bytes (c ∷ rest) h =
    let none : c ∷ [] ≢ [] = λ e. absurd (cons_is_some c [] e) in
    let t : is_lexeme (bytes ++ c ∷ []) ≡ false = h.longest (c ∷ []) rest none refl in
    lexemes_end bytes c rest t ∙ some_bytes bytes (lexemes (begins_with c) rest) (token_lexeme token bytes h.spelled)
    ∙ ap (λ (x : List (List ℕ)). bytes ∷ x) (sym (restarted c rest))
  where
    cons_is_some : (c : ℕ) (rest : List ℕ) → c ∷ rest ≡ [] → ⊥
    cons_is_some c rest e = cc

pub gone_through : (tokens : List Token) (text : List ℕ) → IsTokens tokens text → Spelled tokens (lexemes [] text)
gone_through [] text h =
    let none : lexemes [] text ≡ [] = ap (lexemes []) (sym (append-nil text)) ∙ skipped text [] h in
    subst (λ (x : List (List ℕ)). Spelled [] x) (sym none) tt
gone_through (token ∷ tokens) text h =
    let b = h.1.0 in
    let bytes = b.bytes in
    let all : lexemes [] text ≡ bytes ∷ lexemes [] h.0 = ap (lexemes []) b.parts ∙ skipped b.blanks (bytes ++ h.0) b.blank
    ∙ run [] bytes h.0 (token_lexeme token bytes b.longest.spelled) ∙ first_lexeme token bytes h.0 b.longest in
    subst (λ (x : List (List ℕ)). Spelled (token ∷ tokens) x) (sym all) (b.longest.spelled, gone_through tokens h.0 h.1.1)
