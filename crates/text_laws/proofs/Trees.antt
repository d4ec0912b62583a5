-- Each text of a JSON value is in the bytes that it was read from, and no array has more items than they are.
use Rattle.text_laws.proofs.Common.{[], arith, IfSome, IsTextWithin, IsUtf8, length, List, None, Option, option_and_then, Some, suc, zero, ℕ, ⊤, ◌+◌, ◌<◌, ◌∷◌, ◌≤◌}
use Rattle.json.specs.Json as json
use Rattle.json.specs.Json.{Parse, after_end_array, if_last, items_step, members_step, parse_map, read_key, value_with}
use Rattle.json.specs.Lex.{tokens}
use Rattle.json.specs.Token.{Token}
use Rattle.text_laws.proofs.Tokens.{HaveTexts, tokens_within}

-- how many items there are
abbrev pub count : json.Items → ℕ
count json.no_items = 0
count (json.item j js) = suc (count js)

-- each text has at most this many bytes, and each array at most this many items
abbrev mutual
  pub IsWithin : ℕ → json.Json → Type 0
  IsWithin most json.null = ⊤
  IsWithin most (json.boolean b) = ⊤
  IsWithin most (json.number s) = ⊤
  IsWithin most (json.string s) = IsTextWithin most s
  IsWithin most (json.array js) = (count js ≤ most) × AreItemsWithin most js
  IsWithin most (json.object ms) = AreMembersWithin most ms

  pub AreItemsWithin : ℕ → json.Items → Type 0
  AreItemsWithin most json.no_items = ⊤
  AreItemsWithin most (json.item j js) = IsWithin most j × AreItemsWithin most js

  pub AreMembersWithin : ℕ → json.Members → Type 0
  AreMembersWithin most json.no_members = ⊤
  AreMembersWithin most (json.member k j ms) = IsWithin most j × AreMembersWithin most ms

-- What is parsed has P, and its size and the tokens that are left come to no more than the tokens before.
abbrev Parsed : {A : Type 0} → (A → Type 0) → (A → ℕ) → ℕ → ℕ → Option (A × List Token) → Type 0
Parsed P size most n None = ⊤
Parsed P size most n (Some p) = P p.0 × HaveTexts most p.1 × (size p.0 + length p.1 ≤ n)

-- the same of whatever tokens there are, if they are few enough
abbrev Parses : {A : Type 0} → (A → Type 0) → (A → ℕ) → ℕ → Parse A → Type 0
Parses P size most parse = (ts : List Token) → HaveTexts most ts → length ts ≤ suc most → Parsed P size most (length ts) (parse ts)

mapped : {A B : Type 0} (P : A → Type 0) (Q : B → Type 0) (size : A → ℕ) (measure : B → ℕ) (most n m : ℕ) (f : A → B)
    → ((a : A) → P a → size a ≤ n → Q (f a)) → ((a : A) → n + measure (f a) ≤ m + size a)
    → (o : Option (A × List Token)) → Parsed P size most n o → Parsed Q measure most m (parse_map f o)
mapped P Q size measure most n m f keeps fits None h = tt
mapped P Q size measure most n m f keeps fits (Some p) h =
    (keeps p.0 h.0 (omega (arith, h.2)), h.1, omega (arith, h.2, fits p.0))

-- a value takes a token at least
abbrev one : json.Json → ℕ
one j = 1

-- members have no size here
abbrev none : json.Members → ℕ
none ms = 0

after_end : (most : ℕ) (ts : List Token) → HaveTexts most ts
    → IfSome (after_end_array ts) (λ rest. HaveTexts most rest × (length rest < length ts))
after_end most [] h = tt
after_end most (Token.end_array ∷ ts) h = (h.1, omega arith)
after_end most (_ ∷ ts) h = tt

after_key : (most : ℕ) (ts : List Token) → HaveTexts most ts → IfSome (read_key ts) (λ p. HaveTexts most p.1 × (length p.1 < length ts))
after_key most [] h = tt
after_key most (Token.end_object ∷ ts) h = (h.1, omega arith)
after_key most (Token.key s ∷ ts) h = (h.1, omega arith)
after_key most (_ ∷ ts) h = tt

-- a value, and then more
and_more : {B : Type 0} (Q : B → Type 0) (size : B → ℕ) (most n : ℕ) (join : json.Json → B → B)
    → ((j : json.Json) (b : B) → IsWithin most j → Q b → Q (join j b)) → ((j : json.Json) (b : B) → size (join j b) ≤ suc (size b))
    → (rest : Parse B) → Parses Q size most rest → (o : Option (json.Json × List Token)) → n ≤ suc most
    → Parsed (IsWithin most) one most n o → Parsed Q size most n (option_and_then (λ q. parse_map (join q.0) (rest q.1)) o)
and_more Q size most n join keeps fits rest parses None le h = tt
and_more Q size most n join keeps fits rest parses (Some q) le h =
    mapped Q Q size size most (length q.1) n (join q.0) (λ b held _. keeps q.0 b h.0 held)
    (λ b. omega (arith, h.2, fits q.0 b)) (rest q.1) (parses q.1 h.1 (omega (arith, h.2)))

module _ (most : ℕ) (parse : Parse json.Json) (parses : Parses (IsWithin most) one most parse) where
  item_turn : (more : Parse json.Items) → Parses (AreItemsWithin most) count most more → (ts : List Token) → HaveTexts most ts
      → length ts ≤ suc most → (o : Option (List Token)) → IfSome o (λ rest. HaveTexts most rest × (length rest < length ts))
      → Parsed (AreItemsWithin most) count most (length ts) (items_step parse more ts o)
  item_turn more again ts texts le (Some rest) h = (tt, h.0, omega (arith, h.1))
  item_turn more again ts texts le None h =
      and_more (AreItemsWithin most) count most (length ts) json.item (λ j js within held. (within, held)) (λ j js. omega arith)
      more again (parse ts) le (parses ts texts le)

  parses_items : (n : ℕ) → Parses (AreItemsWithin most) count most (json.items parse n)
  unfolding json.items
  parses_items zero ts texts le = tt
  parses_items (suc n) ts texts le =
      item_turn (json.items parse n) (parses_items n) ts texts le (after_end_array ts) (after_end most ts texts)

  member_turn : (more : Parse json.Members) → Parses (AreMembersWithin most) none most more → (n : ℕ) → n ≤ suc most
      → (o : Option (Option (List ℕ) × List Token)) → IfSome o (λ p. HaveTexts most p.1 × (length p.1 < n))
      → Parsed (AreMembersWithin most) none most n (option_and_then (λ q. members_step parse more q.0 q.1) o)
  member_turn more again n le None h = tt
  member_turn more again n le (Some (None, rest)) h = (tt, h.0, omega (arith, h.1))
  member_turn more again n le (Some (Some k, rest)) h =
      and_more (AreMembersWithin most) none most n (json.member k) (λ j ms within held. (within, held)) (λ j ms. omega arith)
      more again (parse rest) le
      (wider (parse rest) (parses rest h.0 (omega (arith, h.1)))) where
        wider : (o : Option (json.Json × List Token)) → Parsed (IsWithin most) one most (length rest) o
            → Parsed (IsWithin most) one most n o
        wider None p = tt
        wider (Some q) p = (p.0, p.1, omega (arith, p.2, h.1))

  parses_members : (n : ℕ) → Parses (AreMembersWithin most) none most (json.members parse n)
  unfolding json.members
  parses_members zero ts texts le = tt
  parses_members (suc n) ts texts le =
      member_turn (json.members parse n) (parses_members n) (length ts) le (read_key ts) (after_key most ts texts)

one_level : (most : ℕ) (a : Parse json.Items) (o : Parse json.Members) → Parses (AreItemsWithin most) count most a
    → Parses (AreMembersWithin most) none most o → Parses (IsWithin most) one most (value_with a o)
one_level most a o items members [] h le = tt
one_level most a o items members (Token.begin_object ∷ ts) h le =
    mapped (AreMembersWithin most) (IsWithin most) none one most (length ts) (suc (length ts)) json.object (λ ms held _. held)
    (λ ms. omega arith) (o ts) (members ts h.1 (omega arith))
one_level most a o items members (Token.begin_array ∷ ts) h le =
    mapped (AreItemsWithin most) (IsWithin most) count one most (length ts) (suc (length ts)) json.array
    (λ js held few. (omega arith, held)) (λ js. omega arith) (a ts) (items ts h.1 (omega arith))
one_level most a o items members (Token.end_object ∷ ts) h le = tt
one_level most a o items members (Token.end_array ∷ ts) h le = tt
one_level most a o items members (Token.key s ∷ ts) h le = tt
one_level most a o items members (Token.string s ∷ ts) h le = (h.0, h.1, omega arith)
one_level most a o items members (Token.bad ∷ ts) h le = tt
one_level most a o items members _ h le = (tt, h.1, omega arith)

parses_values : (most d : ℕ) → Parses (IsWithin most) one most (json.value d)
unfolding json.value
parses_values most zero = one_level most (λ ts. None) (λ ts. None) (λ ts h le. tt) (λ ts h le. tt)
parses_values most (suc d) =
    one_level most (λ ts. json.items (json.value d) (length ts) ts) (λ ts. json.members (json.value d) (length ts) ts)
    (λ ts h le. parses_items most (json.value d) (parses_values most d) (length ts) ts h le)
    (λ ts h le. parses_members most (json.value d) (parses_values most d) (length ts) ts h le)

last_within : (most n : ℕ) (o : Option (json.Json × List Token)) → Parsed (IsWithin most) one most n o
    → IfSome (option_and_then (λ p. if_last p.0 p.1) o) (IsWithin most)
last_within most n None h = tt
last_within most n (Some (j, [])) h = h.0
last_within most n (Some (j, t ∷ ts)) h = tt

-- the value of a text
pub tree_within : (d : ℕ) (text : List ℕ) → IsUtf8 text
    → IfSome (option_and_then (λ p. if_last p.0 p.1) (json.value d (tokens text))) (IsWithin (length text))
tree_within d text utf8 =
    let found = tokens_within text utf8 in
    last_within (length text) (length (tokens text)) (json.value d (tokens text))
    (parses_values (length text) d (tokens text) found.0 (omega (arith, found.1)))
