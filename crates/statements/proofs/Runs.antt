-- Where a text is divided: at a colon, and at a blank.
use Rattle.statements.proofs.Common.{[], all_reverse, and_both, and_left, and_right, ap, append-nil, arith, bare, begins_blank, Bool, drop-append-add, eq-eqb, false, is_blank, is_name, is_name_byte, join_with_byte, join_with_byte-slice_split, length, length-append, List, list_all, list_all-append, nat_tests, None, not, parted, parted_at, position, position_or_len, refl, reverse, Some, sym, take-append_seam, trimmed, trimmed_ends, true, ℕ, ◌++◌, ◌<◌, ◌==◌, ◌∙◌, ◌∷◌, ◌≡◌}
use Rattle.std.proofs.lemmas.List.{length-reverse, reverse-append}
use Rattle.byte_strings.proofs.Divided.{fields_some, shape}
use Rattle.statements.proofs.Registers.{name_bytes}

-- a byte that a text does not have
abbrev pub lacks : ℕ → List ℕ → Bool
lacks byte text = list_all (λ b. not (b == byte)) text

-- the first element that passes, after some that do not
index_at : (p : ℕ → Bool) (xs rest : List ℕ) → list_all (λ x. not (p x)) xs ≡ true → position_or_len p rest ≡ 0
    → position_or_len p (xs ++ rest) ≡ length xs
index_at p [] rest h t = t
index_at p (x ∷ xs) rest h t = grind (arith, index_at p xs rest)

pub position_at : (p : ℕ → Bool) (xs ys : List ℕ) (y : ℕ) → list_all (λ x. not (p x)) xs ≡ true → p y ≡ true
    → position p (xs ++ y ∷ ys) ≡ Some (length xs)
position_at p xs ys y h t = grind (arith, nat_tests, index_at p xs (y ∷ ys), length-append xs (y ∷ ys))

pub no_position : (p : ℕ → Bool) (xs : List ℕ) → list_all (λ x. not (p x)) xs ≡ true → position p xs ≡ None
no_position p xs h = grind (arith, nat_tests, append-nil xs, index_at p xs [])

-- a text that is divided at a byte is put together so, and the other way round
pub parted_joins : (byte : ℕ) (text prefix after : List ℕ) → parted byte text ≡ Some (prefix, after) → text ≡ prefix ++ byte ∷ after
parted_joins byte text prefix after h =
    let s = shape byte after in
    sym (join_with_byte-slice_split byte text) ∙ ap (join_with_byte byte) (fields_some byte text prefix after h)
    ∙ rw s.2 (ap (λ (l : List ℕ). prefix ++ byte ∷ l) (rw s.2 at (join_with_byte-slice_split byte after)))

pub parts_join : (byte : ℕ) (prefix after : List ℕ) → lacks byte prefix ≡ true → parted byte (prefix ++ byte ∷ after) ≡ Some (prefix, after)
parts_join byte prefix after h =
    ap (parted_at (prefix ++ byte ∷ after)) (position_at (λ b. b == byte) prefix after byte h (eq-eqb byte byte refl))
    ∙ rw (take-append_seam prefix (byte ∷ after), drop-append-add prefix (byte ∷ after) 1) refl

-- ---- a test of each byte

pub all_weaker : (p q : ℕ → Bool) → ((b : ℕ) → p b ≡ true → q b ≡ true) → (text : List ℕ) → list_all p text ≡ true → list_all q text ≡ true
all_weaker p q f [] h = refl
all_weaker p q f (b ∷ text) h = and_both _ _ (f b (and_left (p b) _ h)) (all_weaker p q f text (and_right (p b) _ h))

pub all_left : (p : ℕ → Bool) (a b : List ℕ) → list_all p (a ++ b) ≡ true → list_all p a ≡ true
all_left p a b h = and_left (list_all p a) (list_all p b) (sym (list_all-append p a b) ∙ h)

pub all_right : (p : ℕ → Bool) (a b : List ℕ) → list_all p (a ++ b) ≡ true → list_all p b ≡ true
all_right p a b h = and_right (list_all p a) (list_all p b) (sym (list_all-append p a b) ∙ h)

-- a text has no byte that fails where each of its own passes
pub lacks_byte : (p : ℕ → Bool) (byte : ℕ) (text : List ℕ) → p byte ≡ false → list_all p text ≡ true → lacks byte text ≡ true
lacks_byte p byte text f h = all_weaker p (λ b. not (b == byte)) (λ b k. grind (arith, nat_tests)) text h

pub names_not_blank : (name : List ℕ) → is_name name ≡ true → list_all (λ b. not (is_blank b)) name ≡ true
names_not_blank name h = all_weaker is_name_byte (λ b. not (is_blank b)) (λ b k. grind (arith, nat_tests)) name (name_bytes name h)

-- ---- how a text begins and ends

pub begins_append : (a b : List ℕ) → 0 < length a → begins_blank (a ++ b) ≡ begins_blank a
begins_append a b h = grind arith

-- a text without blanks
pub begins_so : (text more : List ℕ) → 0 < length text → list_all (λ b. not (is_blank b)) text ≡ true → begins_blank (text ++ more) ≡ false
begins_so [] more l h = absurd (omega arith)
begins_so (b ∷ text) more l h = grind arith

pub unblank_bare : (text : List ℕ) → list_all (λ b. not (is_blank b)) text ≡ true → trimmed text ≡ text
unblank_bare [] h = refl
unblank_bare (b ∷ text) h =
    let all : List ℕ = b ∷ text in
    let last = begins_so (reverse all) [] (rw (length-reverse all) (omega arith)) (all_reverse (λ c. not (is_blank c)) all h) in
    bare all (begins_so all [] (omega arith) h) (sym (ap begins_blank (append-nil (reverse all))) ∙ last)

-- a text ends with what is no blank
abbrev pub Ends : List ℕ → Type 0
Ends text = (begins_blank (reverse text) ≡ false) × (0 < length text)

pub bare_ends : (text : List ℕ) → trimmed text ≡ text → 0 < length text → Ends text
bare_ends text h long = (sym (ap (λ t. begins_blank (reverse t)) h) ∙ trimmed_ends text, long)

pub ends_after : (prefix text : List ℕ) → Ends text → Ends (prefix ++ text)
ends_after prefix text (last, long) = (
  ap begins_blank (reverse-append prefix text) ∙ begins_append (reverse text) (reverse prefix) (rw (length-reverse text) long) ∙ last,
  omega (arith, length-append prefix text),
)

-- whether a name can end before a text: it is empty, or begins with a blank
abbrev pub stops : List ℕ → Bool
stops [] = true
stops (b ∷ text) = is_blank b

-- where a text begins with a name and a colon, it does not begin with a name that ends so
pub ends_once : (a b x after : List ℕ) → list_all is_name_byte a ≡ true → list_all is_name_byte b ≡ true → stops x ≡ true
    → a ++ 58 ∷ after ≡ b ++ x → ⊥
ends_once [] [] x after ha hb s e = grind (arith, nat_tests)
ends_once [] (d ∷ b) x after ha hb s e = grind (arith, nat_tests)
ends_once (c ∷ a) [] x after ha hb s e = grind (arith, nat_tests)
ends_once (c ∷ a) (d ∷ b) x after ha hb s e = grind (arith, ends_once a b x after)
