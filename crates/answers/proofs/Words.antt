-- The value of an expression is a word.
use Rattle.answers.proofs.Common.{[], All, All-head, All-tail, And, AndThen, ap, are_bytes, arith, Binary, bit_and, Bool, bytes_at, cond, div-le_self, drop, Enclosed, eqb, Equal, Err, expression_of, false, first_address, Greater, GreaterEqual, Hart, has_bytes, IfOk, Infix, IsTokens, leb, leb-true, length, Less, LessEqual, List, list_all, little_endian, lt-ltb, ltb, magnitude, magnitude_by, Minus, None, not, NotEqual, Number, numeral, Ok, Option, Or, OrElse, Pc, Plus, prefixed, refl, Register, Round, ShiftLeft, ShiftRight, slice_index, Some, Spells, Square, suc, Times, Token, tokens_of, Tree, true, Unary, within, Xor, zero, ℕ, ⊤, ◌%◌, ◌&&◌, ◌*◌, ◌++◌, ◌+◌, ◌-◌, ◌<◌, ◌^◌, ◌∷◌, ◌≡◌, ◌≤◌}
use Rattle.std.specs.Str.Parse.{digits_value}
use Rattle.std.specs.Char.{is_digit}
use Rattle.std.proofs.lemmas.Nat.{and_le_l, or_lt, xor_lt}
use Rattle.numerals.specs.declared.NumeralError.TheVariants.{Malformed, TooLarge}
use Rattle.rv32i.specs.Machine.{flag, is_less_than, places}
use Rattle.breakpoints.specs.Values.{Valued, before, between, decides, enclosed, is_true, value_of, with_value}
use Rattle.breakpoints.specs.declared.error.ExprFault.TheVariants.{Outside}
use Rattle.breakpoints.specs.declared.token.Bracket.{Bracket}
use Rattle.breakpoints.specs.declared.token.Prefix.{Prefix}
use Rattle.breakpoints.specs.declared.token.Prefix.TheVariants.{Negate, Complement, Not}
use Rattle.breakpoints.specs.declared.token.Token.TheVariants as t
use Rattle.answers.proofs.ProperLooks.{both, of_bytes, some_dropped}
use Rattle.answers.proofs.Reading.{is_expression}

-- ---- numbers that digits write

within_small : (m n : ℕ) → within m ≡ Ok n → n < 4294967296
within_small m n e = by (leb m 4294967295) refl where
  by : (b : Bool) → leb m 4294967295 ≡ b → n < 4294967296
  by true is =
      let there : within m ≡ Ok m = ap (λ (b : Bool). cond b (Ok m) (Err TooLarge)) is in
      let same : m ≡ n = cc in
      let small : m ≤ 4294967295 = leb-true m 4294967295 is in
      omega (arith, same, small)
  by false is = let none : within m ≡ Err TooLarge = ap (λ (b : Bool). cond b (Ok m) (Err TooLarge)) is in absurd (cc)

pub numeral_small : (radix : ℕ) (digits : List ℕ) (n : ℕ) → numeral radix digits ≡ Ok n → n < 4294967296
numeral_small radix digits n e = by (not (eqb (length digits) 0) && list_all (λ c. is_digit c radix) digits) e where
  by : (b : Bool) → cond b (within (digits_value radix digits)) (Err Malformed) ≡ Ok n → n < 4294967296
  by true f = within_small (digits_value radix digits) n f
  by false f = absurd (none f) where
    none : Err Malformed ≡ Ok n → ⊥
    none f = cc

magnitude_small : (bytes : List ℕ) (n : ℕ) → magnitude bytes ≡ Ok n → n < 4294967296
magnitude_small bytes n e = by (prefixed bytes) e where
  by : (found : Option (List ℕ)) → magnitude_by bytes found ≡ Ok n → n < 4294967296
  by None f = numeral_small 10 bytes n f
  by (Some digits) f = numeral_small 16 digits n f

-- ---- the numbers of a tree

abbrev IsWordToken : Token → Type 0
IsWordToken (t.Number n) = n < 4294967296
IsWordToken _ = ⊤

abbrev AreWords : List Token → Type 0
AreWords [] = ⊤
AreWords (token ∷ tokens) = IsWordToken token × AreWords tokens

spelled_word : (token : Token) (bytes : List ℕ) → Spells token bytes → IsWordToken token
spelled_word (t.Number n) bytes h = magnitude_small bytes n h
spelled_word _ bytes h = tt

spelled_words : (tokens : List Token) (text : List ℕ) → IsTokens tokens text → AreWords tokens
spelled_words [] text h = tt
spelled_words (token ∷ tokens) text h =
    (spelled_word token h.1.0.bytes h.1.0.longest.spelled, spelled_words tokens h.0 h.1.1)

first_words : (some others : List Token) → AreWords (some ++ others) → AreWords some
first_words [] others h = tt
first_words (token ∷ some) others h = (h.0, first_words some others h.1)

last_words : (some others : List Token) → AreWords (some ++ others) → AreWords others
last_words [] others h = h
last_words (token ∷ some) others h = last_words some others h.1

abbrev HasWords : Tree → Type 0
HasWords (Number n) = n < 4294967296
HasWords (Register r) = ⊤
HasWords Pc = ⊤
HasWords (Unary operator operand) = HasWords operand
HasWords (Binary operator left right) = HasWords left × HasWords right
HasWords (Enclosed bracket inner) = HasWords inner

tree_words : (tree : Tree) → AreWords (tokens_of tree) → HasWords tree
tree_words (Number n) h = h.0
tree_words (Register r) h = tt
tree_words Pc h = tt
tree_words (Unary operator operand) h = tree_words operand h.1
tree_words (Binary operator left right) h = (
  tree_words left (first_words (tokens_of left) (t.Infix operator ∷ tokens_of right) h),
  tree_words right
      (last_words (tokens_of left) (t.Infix operator ∷ tokens_of right) h).1,
)
tree_words (Enclosed bracket inner) h = tree_words inner (first_words (tokens_of inner) (t.Close bracket ∷ []) h.1)

-- ---- values

pub small_at : (x : List ℕ) (r : ℕ) → All (λ value. value < 4294967296) x → slice_index x r < 4294967296
small_at [] r h = omega arith
small_at (v ∷ x) zero h = All-head (λ (value : ℕ). value < 4294967296) v x h
small_at (v ∷ x) (suc r) h = small_at x r (All-tail (λ (value : ℕ). value < 4294967296) v x h)

pub all_bytes : (m : List ℕ) → All (λ byte. byte < 256) m → are_bytes m ≡ true
all_bytes [] h = refl
all_bytes (b ∷ m) h =
    both (ltb b 256) (are_bytes m) (lt-ltb b 256 (All-head (λ (byte : ℕ). byte < 256) b m h))
    (all_bytes m (All-tail (λ (byte : ℕ). byte < 256) b m h))

abbrev IsSmall : Valued → Type 0
IsSmall found = IfOk found (λ v. v < 4294967296)

mod_small : (n : ℕ) → n % 4294967296 < 4294967296
mod_small n = omega arith

flag_small : (b : Bool) → flag b < 4294967296
flag_small true = omega arith
flag_small false = omega arith

before_small : (operator : Prefix) (v : ℕ) → v < 4294967296 → before operator v < 4294967296
before_small Negate v h = mod_small (0 + (4294967296 - v))
before_small Complement v h = xor_lt 32 v 0xffffffff h (omega arith)
before_small Not v h = flag_small (eqb v 0)

between_small : (operator : Infix) (a b : ℕ) → a < 4294967296 → b < 4294967296 → between operator a b < 4294967296
between_small OrElse a b h k = flag_small (is_true b)
between_small AndThen a b h k = flag_small (is_true b)
between_small Or a b h k = or_lt 32 a b h k
between_small Xor a b h k = xor_lt 32 a b h k
between_small And a b h k = let less : bit_and a b ≤ a = and_le_l a b in omega (arith, less, h)
between_small Equal a b h k = flag_small (eqb a b)
between_small NotEqual a b h k = flag_small (not (eqb a b))
between_small Less a b h k = flag_small (is_less_than a b)
between_small LessEqual a b h k = flag_small (not (is_less_than b a))
between_small Greater a b h k = flag_small (is_less_than b a)
between_small GreaterEqual a b h k = flag_small (not (is_less_than a b))
between_small ShiftLeft a b h k = mod_small (a * 2 ^ places b)
between_small ShiftRight a b h k =
    let less : between ShiftRight a b ≤ a = div-le_self a (2 ^ places b) in omega (arith, less, h)
between_small Plus a b h k = mod_small (a + b)
between_small Minus a b h k = mod_small (a + (4294967296 - b))
between_small Times a b h k = mod_small (a * b)

with_small : (found : Valued) (f : ℕ → Valued) → IsSmall found → ((v : ℕ) → v < 4294967296 → IsSmall (f v)) → IsSmall (with_value found f)
with_small (Ok v) f h k = k v h
with_small (Err fault) f h k = tt

decided_small : (b : Bool) (a : ℕ) (found : Valued) → IsSmall found → IsSmall (cond b (Ok (flag (is_true a))) found)
decided_small true a found h = flag_small (is_true a)
decided_small false a found h = h

enclosed_small : (bracket : Bracket) (memory : List ℕ) (v : ℕ) → are_bytes memory ≡ true → v < 4294967296
    → IsSmall (enclosed bracket memory v)
enclosed_small Round memory v bytes h = h
enclosed_small Square memory v bytes h = by (has_bytes memory v 4) where
  by : (b : Bool) → IsSmall (cond b (Ok (little_endian (bytes_at memory v 4))) (Err Outside))
  by true = of_bytes (drop (v - first_address) memory) (some_dropped memory (v - first_address) bytes)
  by false = tt

value_small : (tree : Tree) (hart : Hart) (memory : List ℕ) → HasWords tree → hart.pc < 4294967296
    → All (λ value. value < 4294967296) hart.x → are_bytes memory ≡ true → IsSmall (value_of tree hart memory)
value_small (Number n) hart memory h pc x bytes = h
value_small (Register r) hart memory h pc x bytes = small_at hart.x r x
value_small Pc hart memory h pc x bytes = pc
value_small (Unary operator operand) hart memory h pc x bytes =
    with_small (value_of operand hart memory) (λ v. Ok (before operator v)) (value_small operand hart memory h pc x bytes)
    (λ v small. before_small operator v small)
value_small (Binary operator left right) hart memory h pc x bytes =
    with_small (value_of left hart memory)
    (λ a. cond (decides operator a) (Ok (flag (is_true a))) (with_value (value_of right hart memory) (λ b. Ok (between operator a b))))
    (value_small left hart memory h.0 pc x bytes) (λ a small.
    decided_small (decides operator a) a (with_value (value_of right hart memory) (λ b. Ok (between operator a b)))
    (with_small (value_of right hart memory) (λ b. Ok (between operator a b)) (value_small right hart memory h.1 pc x bytes)
    (λ b also. between_small operator a b small also)))
value_small (Enclosed bracket inner) hart memory h pc x bytes =
    with_small (value_of inner hart memory) (enclosed bracket memory) (value_small inner hart memory h pc x bytes)
    (λ v small. enclosed_small bracket memory v bytes small)

-- of the expression that a text is
pub expression_small : (text : List ℕ) (tree : Tree) (hart : Hart) (memory : List ℕ) → expression_of text ≡ Some tree → hart.pc < 4294967296
    → All (λ value. value < 4294967296) hart.x → are_bytes memory ≡ true → IfOk (value_of tree hart memory) (λ v. v < 4294967296)
expression_small text tree hart memory e pc x bytes =
    value_small tree hart memory (tree_words tree (spelled_words (tokens_of tree) text (is_expression text tree e).1.0.tokens)) pc x bytes
