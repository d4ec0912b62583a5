-- The words of the stack, one after the other.
use Rattle.variables.proofs.Common.{[], ap, append_assoc, arith, Bool, cond, false, has_word, List, map, None, Option, prefix_len, range_with_len, refl, slice_index, Some, suc, sym, take, take_while, true, word, words, ℕ, ◌*◌, ◌++◌, ◌+◌, ◌-◌, ◌<◌, ◌∙◌, ◌∷◌, ◌≡◌, ◌≤◌}
use Rattle.std.proofs.lemmas.List.FromFn.{map-range_with_len_more}
use Rattle.rv32i.proofs.Following.{range_with_len-end, range_with_len-rest}
use Rattle.image.specs.Memory.{bytes_at, has_bytes, little_endian}
use Rattle.rv32i.specs.Names.{name_of}
use Rattle.rv32i.specs.declared.hart.Hart.{Hart}
use Rattle.message_parts.specs.declared.variables.Variable.{Variable}
use Rattle.variables.specs.Registers.{counter, register, registers}
use Rattle.variables.specs.Private.Stack.{word_anywhere}

take_while-true : (p : ℕ → Bool) (x : ℕ) (xs : List ℕ) → p x ≡ true → take_while p (x ∷ xs) ≡ x ∷ take_while p xs
take_while-true p x xs is =
    let one : 1 + prefix_len p xs ≡ suc (prefix_len p xs) = omega arith in
    ap (λ (b : Bool). take (cond b (1 + prefix_len p xs) 0) (x ∷ xs)) is ∙ ap (λ (n : ℕ). take n (x ∷ xs)) one

take_while-false : (p : ℕ → Bool) (x : ℕ) (xs : List ℕ) → p x ≡ false → take_while p (x ∷ xs) ≡ []
take_while-false p x xs is = ap (λ (b : Bool). take (cond b (1 + prefix_len p xs) 0) (x ∷ xs)) is

-- one word further
pub words_on : (memory : List ℕ) (sp k n : ℕ) (done done' all : List Variable) → k < n → has_word memory sp (4 * k) ≡ true
    → done' ≡ done ++ word memory sp (4 * k) ∷ [] → done ++ words memory sp (range_with_len k (n - k)) ≡ all
    → done' ++ words memory sp (range_with_len (k + 1) (n - (k + 1))) ≡ all
words_on memory sp k n done done' all h is more e =
    let rest : List ℕ = range_with_len (k + 1) (n - (k + 1)) in
    let one : words memory sp (range_with_len k (n - k)) ≡ word memory sp (4 * k) ∷ words memory sp rest =
    ap (words memory sp) (range_with_len-rest k n h)
    ∙ ap (map (word memory sp)) (take_while-true (has_word memory sp) (4 * k) (map (λ number. 4 * number) rest) is) in
    ap (λ (l : List Variable). l ++ words memory sp rest) more
    ∙ append_assoc done (word memory sp (4 * k) ∷ []) (words memory sp rest)
    ∙ ap (λ (l : List Variable). done ++ l) (sym one) ∙ e

-- the first that does not lie in memory ends them, and so does the end of the numbers
pub words_end : (memory : List ℕ) (sp k n : ℕ) (done all : List Variable) → k < n → has_word memory sp (4 * k) ≡ false
    → done ++ words memory sp (range_with_len k (n - k)) ≡ all → done ++ [] ≡ all
words_end memory sp k n done all h is e =
    let none : words memory sp (range_with_len k (n - k)) ≡ [] =
    ap (words memory sp) (range_with_len-rest k n h)
    ∙ ap (map (word memory sp))
    (take_while-false (has_word memory sp) (4 * k) (map (λ number. 4 * number) (range_with_len (k + 1) (n - (k + 1)))) is) in
    sym (ap (λ (l : List Variable). done ++ l) none) ∙ e

pub words_all : (memory : List ℕ) (sp k n : ℕ) (done all : List Variable) → n ≤ k → done ++ words memory sp (range_with_len k (n - k)) ≡ all
    → done ++ [] ≡ all
words_all memory sp k n done all h e = sym (ap (λ (l : List ℕ). done ++ words memory sp l) (range_with_len-end k n h)) ∙ e

-- a word that was read
pub has_it : (memory : List ℕ) (address value : ℕ) (r : Option ℕ) → r ≡ Some value → r ≡ word_anywhere memory address
    → has_bytes memory address 4 ≡ true
has_it memory address value r is e = by (has_bytes memory address 4) refl where
  by : (b : Bool) → has_bytes memory address 4 ≡ b → has_bytes memory address 4 ≡ true
  by true there = there
  by false there =
      let none : word_anywhere memory address ≡ None = ap
      (λ (b : Bool). cond b (Some (little_endian (bytes_at memory address 4))) None) there in
      absurd (cc)

pub value_of_it : (memory : List ℕ) (address value : ℕ) (r : Option ℕ) → r ≡ Some value → r ≡ word_anywhere memory address
    → value ≡ little_endian (bytes_at memory address 4)
value_of_it memory address value r is e =
    let some : word_anywhere memory address ≡ Some (little_endian (bytes_at memory address 4)) = ap
    (λ (b : Bool). cond b (Some (little_endian (bytes_at memory address 4))) None) (has_it memory address value r is e) in
    cc

-- ---- the registers

pub register_on : (hart : Hart) (k : ℕ) (name : List ℕ) (v : Variable) (done done' : List Variable) → name ≡ name_of k
    → v ≡ record { name = name; value = slice_index hart.x k } → done' ≡ done ++ v ∷ [] → done ≡ map (register hart) (range_with_len 0 k)
    → done' ≡ map (register hart) (range_with_len 0 (k + 1))
register_on hart k name v done done' named is more e =
    let same : v ≡ register hart k = is ∙ ap (λ (n : List ℕ). record { name = n; value = slice_index hart.x k }) named in
    more ∙ ap (λ (l : List Variable). l ++ v ∷ []) e ∙ ap (λ (x : Variable). map (register hart) (range_with_len 0 k) ++ x ∷ []) same
    ∙ sym (map-range_with_len_more (register hart) 0 k k (omega arith))

pub registers_done : (hart : Hart) (k : ℕ) (v : Variable) (done done' : List Variable) → 32 ≤ k → k ≤ 32 → v ≡ counter hart
    → done' ≡ done ++ v ∷ [] → done ≡ map (register hart) (range_with_len 0 k) → done' ≡ registers hart
unfolding registers
registers_done hart k v done done' low high is more e =
    let all : k ≡ 32 = omega arith in
    more ∙ ap (λ (l : List Variable). l ++ v ∷ []) (e ∙ ap (λ (n : ℕ). map (register hart) (range_with_len 0 n)) all)
    ∙ ap (λ (x : Variable). map (register hart) (range_with_len 0 32) ++ x ∷ []) is
