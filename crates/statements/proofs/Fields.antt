-- Operands, and items of data, one after the other.
use Rattle.statements.proofs.Common.{[], append_assoc, arith, before_others, each_operand, Err, false, Item, item_in, items_of, length, LineError, List, More, none, None, Ok, operands_in, Option, refl, Result, shape, Some, sym, trimmed, Width, ℕ, ◌++◌, ◌==◌, ◌∙◌, ◌∷◌, ◌≡◌}

-- what holds where something is found, and where nothing is
pub cases_found : {A : Type 0} (P : Option A → Type 0) (o : Option A) → (o ≡ None → P None) → ((a : A) → o ≡ Some a → P (Some a)) → P o
cases_found P None none some = none refl
cases_found P (Some a) none some = some a refl

-- a text with a comma after its third operand
pub more : (text one two three a b c : List ℕ) → false ≡ (length text == 0) → each_operand text ≡ a ∷ each_operand one
    → each_operand one ≡ b ∷ each_operand two → each_operand two ≡ c ∷ each_operand three → More ≡ operands_in text
more text one two three a b c some e1 e2 e3 = rw (sym some, e1, e2, e3, (shape 44 three).2) refl

-- a list with more after it, unless something is wrong with that
abbrev pub followed_by : {A : Type 0} → List A → Result (List A) LineError → Result (List A) LineError
followed_by list (Ok more) = Ok (list ++ more)
followed_by list (Err error) = Err error

one_before : {A : Type 0} (list : List A) (a : A) (others : Result (List A) LineError)
    → followed_by list (before_others a others) ≡ followed_by (list ++ a ∷ []) others
one_before list a others = grind (arith, append_assoc)

-- one more item of a list
pub one_more : (all : Result (List Item) LineError) (width : Width) (list longer : List Item) (field : List ℕ)
    (rest others : List (List ℕ)) (item : Item)
    → all ≡ followed_by list (items_of width rest) → rest ≡ field ∷ others → item_in width (trimmed field) ≡ Ok item
    → longer ≡ list ++ item ∷ [] → all ≡ followed_by longer (items_of width others)
one_more all width list longer field rest others item h e f g =
    h ∙ rw (e, f, g) (one_before list item (items_of width others))
