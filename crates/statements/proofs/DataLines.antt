-- Directives: what their lines state.
use Rattle.statements.proofs.Common.{[], all_of, and_then, ap, AreOperands, arith, BadOperand, Bool, Byte, codes, commas, cond, cond-false, cond-true, Data, Err, Global, Half, is_bad, is_formed, is_name, IsOperand, Item, item_in, items_of, length, Line, line_of, line_with, LineError, List, list_all, list_all-append, list_all-map, map, mnemonic_of, not, number_item, Ok, operand_list, OutOfRange, read, refl, Result, Said, Some, stated, stated_alone, stating, sym, trimmed, true, Width, with_one, Word, ℕ, ◌++◌, ◌==◌, ◌||◌, ◌∙◌, ◌∷◌, ◌≡◌, ◌⊎◌}
use Rattle.statements.specs.DirectiveLaws.{DataIsItsItems, DirectivesState, IsFormed, TakesLabels}
use Rattle.statements.specs.declared.items.Item.TheVariants.{Number}
use Rattle.std.proofs.lemmas.List.{map-append}
use mathlib.Core.List.{map-map}
use Rattle.statements.proofs.Addresses.{label_is}
use Rattle.statements.proofs.AnyOperands.{list_means, listed, name_operand, one_means, one_ok}
use Rattle.byte_strings.proofs.Divided.{shape}
use Rattle.statements.proofs.Places.{takes, turned}
use Rattle.statements.specs.declared.statement.Statement.TheVariants as say

-- ---- a list of items

abbrev Items : Type 0
Items = Result (List Item) LineError

abbrev is_good : Result Item LineError → Bool
is_good r = not (is_bad r)

abbrev results : Width → List (List ℕ) → List (Result Item LineError)
results width list = map (item_in width) list

-- the items, if each has the form of one
abbrev items_of_each : List (Result Item LineError) → Items
items_of_each rs = cond (list_all is_good rs) (all_of rs) (Err BadOperand)

abbrev data_of : Width → Items → Said
data_of width items = and_then items (λ items. Ok (say.Data width items))

-- what a text of items states, by its operands
abbrev pub outcome : Width → List (List ℕ) → Said
outcome width [] = Err BadOperand
outcome width (a ∷ more) = data_of width (items_of_each (results width (a ∷ more)))

stated_by : (width : Width) (empty : Bool) (a : List ℕ) (more : List (List ℕ))
    → cond (empty || not (list_all (is_formed width) (map trimmed (a ∷ more)))) (Err BadOperand) (data_of width (items_of width (a ∷ more)))
    ≡ outcome width (cond empty [] (map trimmed (a ∷ more)))
stated_by width empty a more =
    rw (← map-map (item_in width) trimmed more, ← list_all-map is_good (item_in width) (map trimmed more)) (grind arith)

pub stated_so : (width : Width) (text : List ℕ) → stated width text ≡ outcome width (operand_list text)
stated_so width text = let s = shape 44 text in rw s.2 (stated_by width (length text == 0) s.0 s.1)

-- what a line of data says
abbrev lined : Width → Items → Result Line LineError
lined width items = line_of [] (stating (data_of width items))

data_means : (name a : List ℕ) (width : Width) (more : List (List ℕ)) → mnemonic_of name ≡ Some (Data width) → AreOperands (a ∷ more)
    → read (line_with name (a ∷ more)) ≡ lined width (items_of_each (results width (a ∷ more)))
data_means name a width more e o =
    list_means name (a ∷ more) e o (stated_so width (commas (a ∷ more)) ∙ ap (outcome width) (listed (a ∷ more) o))

-- ---- each directive

one_item : (width : Width) (r : Result Item LineError)
    → data_of width (items_of_each (r ∷ [])) ≡ and_then r (λ item. Ok (say.Data width (item ∷ [])))
one_item width r = grind arith

item_means : (name a : List ℕ) (width : Width) {s : Said} → mnemonic_of name ≡ Some (Data width) → IsOperand a
    → and_then (item_in width a) (λ item. Ok (say.Data width (item ∷ []))) ≡ s → read (with_one name a) ≡ line_of [] (stating s)
item_means name a width e o h =
    data_means name a width [] e (o, tt) ∙ ap (λ s. line_of [] (stating s)) (one_item width (item_in width a) ∙ h)

item_number : (width : Width) (x : Result ℕ LineError) {y : Result Item LineError} → y ≡ number_item x
    → and_then y (λ item. Ok (say.Data width (item ∷ []))) ≡ and_then x (λ n. Ok (say.Data width (Number n ∷ [])))
item_number width x e =
    turned number_item (λ n. Number n) (λ item. say.Data width (item ∷ [])) x e (λ n. refl) (λ error. refl)

labels_taken : (name : List ℕ) → mnemonic_of name ≡ Some Global → TakesLabels name
labels_taken name e = record {
  label = λ text h. one_means name e (name_operand text h) (one_ok _ (label_is text h));
  other = λ text o h. one_means name e o (ap (λ x. and_then x (λ label. Ok say.Nothing)) (cond-false (is_name text) _ _ h));
}

pub directives_say : DirectivesState
directives_say = record {
  text_is = list_means (codes ".text") [] refl tt refl;
  data_is = list_means (codes ".data") [] refl tt refl;
  globl_is = labels_taken (codes ".globl") refl;
  global_is = labels_taken (codes ".global") refl;
  space_is = takes refl (λ text h t. refl) (λ text o t. one_means (codes ".space") refl o refl);
  align_is = takes refl (λ text h t. refl) (λ text o t. one_means (codes ".align") refl o refl);
  word_is = takes refl (λ text h t. t)
      (λ text o t. item_means (codes ".word") text Word refl o (item_number Word _ (cond-false (is_name text) _ _ t)));
  label_is = λ text h. item_means (codes ".word") text Word refl (name_operand text h) (one_ok _ (cond-true (is_name text) _ _ h));
  half_is = takes refl (λ text h t. refl) (λ text o t. item_means (codes ".half") text Half refl o (item_number Half _ refl));
  byte_is = takes refl (λ text h t. refl) (λ text o t. item_means (codes ".byte") text Byte refl o (item_number Byte _ refl));
}

-- ---- two lists, one after the other

-- all of two lists of items
abbrev joined : Items → Items → Items
joined (Err error) others = Err error
joined (Ok items) (Err error) = Err error
joined (Ok items) (Ok others) = Ok (items ++ others)

all_joined : (rs ss : List (Result Item LineError)) → all_of (rs ++ ss) ≡ joined (all_of rs) (all_of ss)
all_joined [] ss = grind arith
all_joined (r ∷ rs) ss = grind (arith, all_joined rs ss)

-- items that have the form are bad for no other reason
all_formed : (rs : List (Result Item LineError)) → list_all is_good rs ≡ true → all_of rs ≡ Err BadOperand → ⊥
all_formed [] h e = cc
all_formed (r ∷ rs) h e = grind (arith, all_formed rs)

module _ (width : Width) (rs ss : List (Result Item LineError)) where
  abbrev both : Result Line LineError
  both = lined width (items_of_each (rs ++ ss))

  both_good : (items next : List Item) → lined width (items_of_each rs) ≡ stated_alone (say.Data width items)
      → lined width (items_of_each ss) ≡ stated_alone (say.Data width next) → both ≡ stated_alone (say.Data width (items ++ next))
  both_good items next h k = grind (arith, list_all-append is_good rs ss, all_joined rs ss)

  either_bad : (lined width (items_of_each rs) ≡ Err BadOperand) ⊎ (lined width (items_of_each ss) ≡ Err BadOperand) → both ≡ Err BadOperand
  either_bad h = grind (arith, list_all-append is_good rs ss, all_joined rs ss, all_formed rs, all_formed ss)

  -- each item has the form, and one of two lists is out of range
  either_beyond : IsFormed width (lined width (items_of_each rs)) → IsFormed width (lined width (items_of_each ss))
      → (lined width (items_of_each rs) ≡ Err OutOfRange) ⊎ (lined width (items_of_each ss) ≡ Err OutOfRange) → both ≡ Err OutOfRange
  either_beyond p q h = grind (arith, list_all-append is_good rs ss, all_joined rs ss)

-- ---- lines of two lists

operands_joined : (xs ys : List (List ℕ)) → AreOperands xs → AreOperands ys → AreOperands (xs ++ ys)
operands_joined [] ys h k = k
operands_joined (x ∷ xs) ys h k = (h.0, operands_joined xs ys h.1 k)

both_mean : (name a b : List ℕ) (width : Width) (more others : List (List ℕ)) → mnemonic_of name ≡ Some (Data width)
    → AreOperands (a ∷ more) → AreOperands (b ∷ others)
    → read (line_with name ((a ∷ more) ++ (b ∷ others))) ≡ both width (results width (a ∷ more)) (results width (b ∷ others))
both_mean name a b width more others e o p =
    data_means name a width (more ++ (b ∷ others)) e (o.0, operands_joined more (b ∷ others) o.1 p)
    ∙ ap (λ l. lined width (items_of_each l)) (map-append (item_in width) (a ∷ more) (b ∷ others))

pub data_items : DataIsItsItems
data_items = record {
  both = λ name a b width more others items next e o p h k.
      both_mean name a b width more others e o p ∙ both_good width (results width (a ∷ more)) (results width (b ∷ others)) items next
      (sym (data_means name a width more e o) ∙ h) (sym (data_means name b width others e p) ∙ k);
  bad = λ name a b width more others e o p h.
      both_mean name a b width more others e o p ∙ either_bad width (results width (a ∷ more)) (results width (b ∷ others))
      (rw (data_means name a width more e o, data_means name b width others e p) at h);
  beyond = λ name a b width more others e o p f g h.
      both_mean name a b width more others e o p ∙ either_beyond width (results width (a ∷ more)) (results width (b ∷ others))
      (rw (data_means name a width more e o) at f) (rw (data_means name b width others e p) at g)
      (rw (data_means name a width more e o, data_means name b width others e p) at h);
}
