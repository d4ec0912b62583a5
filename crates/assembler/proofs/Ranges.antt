-- What a line states has its operands in their ranges, so that each of its instructions has a word.
--
-- Some types of the crate `statements` have no name here: a value of theirs is taken by a function that is named, or given by one. A
-- mnemonic is one of the tables', and operands are counted, so both are taken apart as lists.
use Rattle.assembler.proofs.Common.{[], and_parts, arith, Bool, bytes_eq, codes, cond, Condition, Err, false, ImmediateOperation, Instr, is_name, length, Line, line_of, LineError, List, list_all, lit<, lit≤, lower_part, meaning, named, nat_le, nat_lt, nat_tests, None, Ok, Option, parted, refl, Result, said, said_at, said_by, Some, Statement, statement_in, stating, StoreOperation, stripped, true, upper_part, ℕ, ◌%◌, ◌&&◌, ◌*◌, ◌+◌, ◌-◌, ◌<◌, ◌==◌, ◌^◌, ◌∷◌, ◌≡◌, ◌≤◌}
use Rattle.std.proofs.Common.{◌||◌, not}
use Rattle.std.proofs.lemmas.List.Quantifiers.{position-Some}
use Rattle.rv32i.specs.Names.{names, numbered_names}
use Rattle.rv32i.specs.declared.instr.Instr.TheVariants as i
use Rattle.statements.specs.Directives.{align, are_formed, global, items_in, section, space, stated}
use Rattle.statements.specs.Instructions.{Said, add_upper, against_zero, amount_in, and_then, branch, call, constant, fence, immediate, jump, jump_and_link, jump_and_link_register, jump_register, jump_register_to, jump_to, load, load_address, load_immediate, load_upper, lower, store, store_lower, swapped, upper_by, upper_in, zero_against}
use Rattle.statements.specs.Mnemonics.{access_mnemonics, branch_mnemonics, copy_mnemonics, directives, first_named, immediate_mnemonics, jump_mnemonics, mnemonic_of, or_else, plain_mnemonics, register_mnemonics, zero_branch_mnemonics}
use Rattle.statements.specs.Numbers.{bits_by, bits_in, constant_in, number_in}
use Rattle.statements.specs.Operands.{access_by, access_in, access_with, are_operands, base_by, bits_low, counted, first_found, immediate_in, index_of, label_in, low_by, low_in, offset_in, operand_list, or_bad, part_access, part_access_by, part_in, part_low, plain_access, register_in, register_of, set_in, sets, target_in}
use Rattle.statements.specs.Reading.{read}
use Rattle.statements.specs.declared.error.LineError.TheVariants.{BadOperand, OutOfRange, Syntax}
use Rattle.statements.specs.declared.items.Width.{Width}
use Rattle.statements.specs.declared.items.Width.TheVariants.{Byte, Half, Word}
use Rattle.statements.specs.declared.operations.Condition.TheVariants as c
use Rattle.statements.specs.declared.operations.ImmediateOperation.TheVariants as m
use Rattle.statements.specs.declared.operations.StoreOperation.TheVariants as t
use Rattle.statements.specs.declared.statement.Statement.TheVariants as say
use Rattle.assembler.proofs.Encoded.{Fits, IsRegister, IsShort, IsUpper, immediate_fits, store_fits}

-- ---- types that have no name here

abbrev FoundBy : {A : Type 0} → Option A → Type 0
FoundBy {A = A} found = A

abbrev GivenBy : {A E : Type 0} → Result A E → Type 0
GivenBy {A = A} given = A

abbrev Mnemonic : Type 0
Mnemonic = FoundBy (mnemonic_of [])

abbrev Low : Type 0
Low = GivenBy (low_in [])

abbrev Access : Type 0
Access = GivenBy (access_in [])

-- ---- what holds of each value that is given

abbrev pub Gives : {A E : Type 0} → (A → Type 0) → Result A E → Type 0
Gives P (Ok a) = P a
Gives P (Err error) = Unit {0}

abbrev OfFound : {A : Type 0} → (A → Type 0) → Option A → Type 0
OfFound P None = Unit {0}
OfFound P (Some a) = P a

-- what holds of both choices
pub either : {A : Type 0} (P : A → Type 0) (b : Bool) (x y : A) → P x → P y → P (cond b x y)
either P true x y h g = h
either P false x y h g = g

-- what is given only where a test holds
pub where_true : {A E : Type 0} (P : A → Type 0) (b : Bool) (a : A) (error : E) → (b ≡ true → P a) → Gives P (cond b (Ok a) (Err error))
where_true P true a error h = h refl
where_true P false a error h = tt

gives_then : {A B : Type 0} (P : A → Type 0) (Q : B → Type 0) (x : Result A LineError) (f : A → Result B LineError) → Gives P x
    → ((a : A) → P a → Gives Q (f a)) → Gives Q (and_then x f)
gives_then P Q (Ok a) f x h = h a x
gives_then P Q (Err error) f x h = tt

-- anything, with nothing asked of it
abbrev Any : {A : Type 0} → A → Type 0
Any a = Unit {0}

gives_any : {A : Type 0} (x : Result A LineError) → Gives Any x
gives_any (Ok a) = tt
gives_any (Err error) = tt

-- ---- statements

-- a statement whose operands fit, whatever the addresses of its labels are
abbrev pub IsCoded : Statement → Type 0
IsCoded (say.One instruction) = Fits instruction
IsCoded (say.Two first second) = Fits first × Fits second
IsCoded (say.Jump rd target) = IsRegister rd
IsCoded (say.Branch condition rs1 rs2 target) = IsRegister rs1 × IsRegister rs2
IsCoded (say.Upper rd label) = IsRegister rd
IsCoded (say.Lower operation rd rs1 label) = IsRegister rd × IsRegister rs1
IsCoded (say.StoreLower operation rs1 rs2 label) = IsRegister rs1 × IsRegister rs2
IsCoded (say.LoadAddress rd label) = IsRegister rd
IsCoded _ = Unit {0}

-- ---- numbers

le_of_test : (a b : ℕ) → nat_le a b ≡ true → a ≤ b
le_of_test a b h = grind (arith, nat_tests)

lt_of_test : (a b : ℕ) → nat_lt a b ≡ true → a < b
lt_of_test a b h = grind (arith, nat_tests)

bits_within_gives : (P : ℕ → Type 0) (below above : ℕ) (negative : Bool) (m : ℕ) → ((m : ℕ) → m ≤ above → P m)
    → ((m : ℕ) → m ≤ below → P ((2 ^ 32 - m) % 2 ^ 32))
    → Gives P (cond (nat_le m (cond negative below above)) (Ok (cond negative ((2 ^ 32 - m) % 2 ^ 32) m)) (Err OutOfRange))
bits_within_gives P below above true m f g =
    where_true P (nat_le m below) ((2 ^ 32 - m) % 2 ^ 32) OutOfRange (λ t. g m (le_of_test m below t))
bits_within_gives P below above false m f g = where_true P (nat_le m above) m OutOfRange (λ t. f m (le_of_test m above t))

bits_give : (P : ℕ → Type 0) (below above : ℕ) (text : List ℕ) → ((m : ℕ) → m ≤ above → P m)
    → ((m : ℕ) → m ≤ below → P ((2 ^ 32 - m) % 2 ^ 32)) → Gives P (bits_in below above text)
bits_give P below above text f g =
    elim (number_in text) as (λ number. Gives P (bits_by below above number)) [
      | Ok n ↦ bits_within_gives P below above n.negative n.magnitude f g
      | Err error ↦ tt
    ]

short_above : (n : ℕ) → n ≤ 2047 → IsShort n
short_above n h = record { fits = omega arith; near = omega arith }

short_below : (n : ℕ) → n ≤ 2048 → IsShort ((2 ^ 32 - n) % 2 ^ 32)
short_below n h = record { fits = omega arith; near = omega arith }

immediate_short : (text : List ℕ) → Gives IsShort (immediate_in text)
immediate_short text = bits_give IsShort 2048 2047 text short_above short_below

amount_small : (text : List ℕ) → Gives (λ n. n < 2 ^ 5) (amount_in text)
amount_small text = bits_give (λ n. n < 2 ^ 5) 0 31 text (λ m h. omega arith) (λ m h. omega arith)

constant_small : (text : List ℕ) → Gives (λ n. n < 2 ^ 32) (constant_in text)
constant_small text = bits_give (λ n. n < 2 ^ 32) 2147483648 4294967295 text (λ m h. omega arith) (λ m h. omega arith)

shifted : (bits : ℕ) → bits < 2 ^ 20 → IsUpper (bits * 4096)
shifted bits h = record { fits = omega arith; whole = omega arith }

upper_whole : (text : List ℕ) → Gives IsUpper (upper_in text)
upper_whole text =
    gives_then (λ n. n < 2 ^ 20) IsUpper (bits_in 0 1048575 text) (λ bits. Ok (bits * 4096))
    (bits_give (λ n. n < 2 ^ 20) 0 1048575 text (λ m h. omega arith) (λ m h. omega arith)) shifted

-- the two parts of any number
pub upper_is : (n : ℕ) → IsUpper (upper_part n)
upper_is n = record { fits = omega arith; whole = omega arith }

low_small : (n : ℕ) → n < 2048 → IsShort n
low_small n h = record { fits = omega arith; near = omega arith }

low_great : (n : ℕ) → 2048 ≤ n → n < 4096 → IsShort (n + (2 ^ 32 - 4096))
low_great n h l = record { fits = omega arith; near = omega arith }

pub lower_is : (n : ℕ) → IsShort (lower_part n)
lower_is n = by (nat_lt (n % 4096) 2048) refl where
  by : (b : Bool) → nat_lt (n % 4096) 2048 ≡ b → IsShort (cond b (n % 4096) (n % 4096 + (2 ^ 32 - 4096)))
  by true e = low_small (n % 4096) (lt_of_test (n % 4096) 2048 e)
  by false e = low_great (n % 4096) (grind (arith, nat_tests)) (omega arith)

-- ---- registers and sets

index_below : (name : List ℕ) (list : List (List ℕ)) → length list ≡ 32 → OfFound IsRegister (index_of name list)
index_below name list h = by (index_of name list) refl where
  by : (found : Option ℕ) → index_of name list ≡ found → OfFound IsRegister found
  by None e = tt
  by (Some k) e = let l = (position-Some (λ other. bytes_eq name other) list k [] e).0 in omega (arith, l, h)

first_below : (one other : Option ℕ) → OfFound IsRegister one → OfFound IsRegister other → OfFound IsRegister (first_found one other)
first_below None other h g = g
first_below (Some r) other h g = h

register_found : (name : List ℕ) → OfFound IsRegister (register_of name)
register_found name =
    first_below (index_of name names) _ (index_below name names refl)
    (first_below (index_of name numbered_names) _ (index_below name numbered_names refl)
    (either (OfFound IsRegister) (bytes_eq name (codes "fp")) (Some 8) None (lit< tt) tt))

or_bad_gives : (P : ℕ → Type 0) (found : Option ℕ) → OfFound P found → Gives P (or_bad found)
or_bad_gives P None h = tt
or_bad_gives P (Some a) h = h

register_small : (text : List ℕ) → Gives IsRegister (register_in text)
register_small text = or_bad_gives IsRegister (register_of text) (register_found text)

named_below : (n : ℕ) (rows : List (List ℕ × ℕ)) (text : List ℕ) → list_all (λ row. nat_lt row.1 n) rows ≡ true
    → OfFound (λ m. m < n) (named rows text)
named_below n [] text h = tt
named_below n ((name, m) ∷ rows) text h =
    let both = and_parts (nat_lt m n) _ h in
    either (OfFound (λ m. m < n)) (bytes_eq text name) (Some m) (named rows text) (lt_of_test m n both.0)
    (named_below n rows text both.1)

set_small : (text : List ℕ) → Gives (λ n. n < 2 ^ 4) (set_in text)
set_small text = or_bad_gives (λ n. n < 2 ^ 4) (named sets text) (named_below (2 ^ 4) sets text refl)

-- ---- immediates and addresses

-- what fits, whatever the operation
record IsLow (low : Low) : Type 0 where
  loaded : (op : ImmediateOperation) (rd rs1 : ℕ) → IsRegister rd → IsRegister rs1 → IsCoded (lower op rd rs1 low)
  stored : (op : StoreOperation) (rs1 rs2 : ℕ) → IsRegister rs1 → IsRegister rs2 → IsCoded (store_lower op rs1 rs2 low)

bits_low_gives : (x : Result ℕ LineError) → Gives IsShort x → Gives IsLow (bits_low x)
bits_low_gives (Ok bits) h = record {
  loaded = λ op rd rs1 d a. immediate_fits op rd rs1 bits d a h;
  stored = λ op rs1 rs2 a b. store_fits op rs1 rs2 bits a b h;
}
bits_low_gives (Err error) h = tt

part_low_gives : (x : Result (List ℕ) LineError) → Gives IsLow (part_low x)
part_low_gives (Ok label) = record { loaded = λ op rd rs1 d a. (d, a); stored = λ op rs1 rs2 a b. (a, b) }
part_low_gives (Err error) = tt

low_by_gives : (text : List ℕ) (found : Option (List ℕ)) → Gives IsLow (low_by text found)
low_by_gives text None = bits_low_gives (immediate_in text) (immediate_short text)
low_by_gives text (Some after) = part_low_gives (part_in after)

low_gives : (text : List ℕ) → Gives IsLow (low_in text)
low_gives text = low_by_gives text (stripped (codes "%lo") text)

offset_gives : (text : List ℕ) → Gives IsLow (offset_in text)
offset_gives text =
    either (Gives IsLow) (length text == 0) (bits_low (Ok 0)) (bits_low (immediate_in text))
    (bits_low_gives (Ok 0) (short_above 0 (omega arith))) (bits_low_gives (immediate_in text) (immediate_short text))

record IsAccess (access : Access) : Type 0 where
  offset : IsLow access.offset
  base : IsRegister access.base

access_gives : (offset : Result Low LineError) (base : Result ℕ LineError) → Gives IsLow offset → Gives IsRegister base
    → Gives IsAccess (access_with offset base)
access_gives offset (Err error) o b = tt
access_gives (Err error) (Ok base) o b = tt
access_gives (Ok offset) (Ok base) o b = record { offset = o; base = b }

base_gives : (found : Option (List ℕ)) → Gives IsRegister (base_by found)
base_gives None = tt
base_gives (Some name) = register_small name

plain_gives : (found : Option (List ℕ × List ℕ)) → Gives IsAccess (plain_access found)
plain_gives None = tt
plain_gives (Some (offset, after)) = search (access_gives, offset_gives, base_gives)

part_access_by_gives : (found : Option (List ℕ × List ℕ)) → Gives IsAccess (part_access_by found)
part_access_by_gives None = tt
part_access_by_gives (Some (label, after)) = search (access_gives, part_low_gives, base_gives)

part_access_gives : (found : Option (List ℕ)) → Gives IsAccess (part_access found)
part_access_gives None = tt
part_access_gives (Some text) = part_access_by_gives (parted 41 text)

access_by_gives : (text : List ℕ) (found : Option (List ℕ)) → Gives IsAccess (access_by text found)
access_by_gives text None = plain_gives (parted 40 text)
access_by_gives text (Some after) = search part_access_gives

access_small : (text : List ℕ) → Gives IsAccess (access_in text)
access_small text = access_by_gives text (stripped (codes "%lo") text)

-- ---- what stands on operands

abbrev IsSaid : Said → Type 0
IsSaid said = Gives IsCoded said

-- what stands on a register, on two, and on anything
on_register : (text : List ℕ) (f : ℕ → Said) → ((n : ℕ) → IsRegister n → IsSaid (f n)) → IsSaid (and_then (register_in text) f)
on_register text f h = gives_then IsRegister IsCoded (register_in text) f (register_small text) h

on_two : (a b : List ℕ) (f : ℕ → ℕ → Said) → ((n m : ℕ) → IsRegister n → IsRegister m → IsSaid (f n m))
    → IsSaid (and_then (register_in a) (λ n. and_then (register_in b) (λ m. f n m)))
on_two a b f h = on_register a (λ n. and_then (register_in b) (λ m. f n m)) (λ n l. on_register b (f n) (λ m k. h n m l k))

on_any : {A : Type 0} (x : Result A LineError) (f : A → Said) → ((a : A) → IsSaid (f a)) → IsSaid (and_then x f)
on_any x f h = gives_then Any IsCoded x f (gives_any x) (λ a _. h a)

register_0 : IsRegister 0
register_0 = lit< tt

register_1 : IsRegister 1
register_1 = lit< tt

short_0 : IsShort 0
short_0 = short_above 0 (lit≤ tt)

-- two registers, or three, of an instruction
two_said : (f : ℕ → ℕ → Instr) → ((n m : ℕ) → IsRegister n → IsRegister m → Fits (f n m)) → (a b : List ℕ)
    → IsSaid (and_then (register_in a) (λ n. and_then (register_in b) (λ m. Ok (say.One (f n m)))))
two_said f h a b = on_two a b (λ n m. Ok (say.One (f n m))) h

three_said : (f : ℕ → ℕ → ℕ → Instr) → ((n m k : ℕ) → IsRegister n → IsRegister m → IsRegister k → Fits (f n m k)) → (a b c : List ℕ)
    → IsSaid (and_then (register_in a) (λ n. and_then (register_in b) (λ m. and_then (register_in c) (λ k. Ok (say.One (f n m k))))))
three_said f h a b c =
    on_two a b (λ n m. and_then (register_in c) (λ k. Ok (say.One (f n m k))))
    (λ n m x y. on_register c (λ k. Ok (say.One (f n m k))) (λ k z. h n m k x y z))

-- two registers and the amount of a shift
shift_said : (f : ℕ → ℕ → ℕ → Instr)
    → ((n m k : ℕ) → IsRegister n → IsRegister m → k < 2 ^ 5 → Fits (f n m k)) → (a b c : List ℕ)
    → IsSaid (and_then (register_in a) (λ n. and_then (register_in b) (λ m. and_then (amount_in c) (λ k. Ok (say.One (f n m k))))))
shift_said f h a b c =
    on_two a b (λ n m. and_then (amount_in c) (λ k. Ok (say.One (f n m k))))
    (λ n m x y. gives_then (λ k. k < 2 ^ 5) IsCoded (amount_in c) (λ k. Ok (say.One (f n m k))) (amount_small c) (λ k z. h n m k x y z))

immediate_said : (op : ImmediateOperation) (list : List (List ℕ)) → IsSaid (immediate op (counted list))
immediate_said op (a ∷ b ∷ c ∷ []) =
    on_two a b (λ rd rs1. and_then (low_in c) (λ imm. Ok (lower op rd rs1 imm)))
    (λ rd rs1 d x. gives_then IsLow IsCoded (low_in c) (λ imm. Ok (lower op rd rs1 imm)) (low_gives c)
    (λ imm h. h.loaded op rd rs1 d x))
immediate_said op others = tt

load_said : (op : ImmediateOperation) (list : List (List ℕ)) → IsSaid (load op (counted list))
load_said op (a ∷ b ∷ []) =
    on_register a (λ rd. and_then (access_in b) (λ access. Ok (lower op rd access.base access.offset)))
    (λ rd d. gives_then IsAccess IsCoded (access_in b) (λ access. Ok (lower op rd access.base access.offset)) (access_small b)
    (λ access h. h.offset.loaded op rd access.base d h.base))
load_said op (a ∷ b ∷ c ∷ []) = tt
load_said op others = tt

store_said : (op : StoreOperation) (list : List (List ℕ)) → IsSaid (store op (counted list))
store_said op (a ∷ b ∷ []) =
    on_register a (λ rs2. and_then (access_in b) (λ access. Ok (store_lower op access.base rs2 access.offset)))
    (λ rs2 y. gives_then IsAccess IsCoded (access_in b) (λ access. Ok (store_lower op access.base rs2 access.offset)) (access_small b)
    (λ access h. h.offset.stored op access.base rs2 h.base y))
store_said op (a ∷ b ∷ c ∷ []) = tt
store_said op others = tt

branch_said : (condition : Condition) (list : List (List ℕ)) → IsSaid (branch condition (counted list))
branch_said condition (a ∷ b ∷ c ∷ []) =
    on_two a b (λ rs1 rs2. and_then (target_in c) (λ target. Ok (say.Branch condition rs1 rs2 target)))
    (λ rs1 rs2 x y. on_any (target_in c) (λ target. Ok (say.Branch condition rs1 rs2 target)) (λ target. (x, y)))
branch_said condition others = tt

swapped_said : (condition : Condition) (list : List (List ℕ)) → IsSaid (swapped condition (counted list))
swapped_said condition (a ∷ b ∷ c ∷ []) =
    on_two a b (λ rs2 rs1. and_then (target_in c) (λ target. Ok (say.Branch condition rs1 rs2 target)))
    (λ rs2 rs1 y x. on_any (target_in c) (λ target. Ok (say.Branch condition rs1 rs2 target)) (λ target. (x, y)))
swapped_said condition others = tt

against_zero_said : (condition : Condition) (list : List (List ℕ)) → IsSaid (against_zero condition (counted list))
against_zero_said condition (a ∷ b ∷ []) =
    on_register a (λ rs1. and_then (target_in b) (λ target. Ok (say.Branch condition rs1 0 target)))
    (λ rs1 x. on_any (target_in b) (λ target. Ok (say.Branch condition rs1 0 target)) (λ target. (x, register_0)))
against_zero_said condition (a ∷ b ∷ c ∷ []) = tt
against_zero_said condition others = tt

zero_against_said : (condition : Condition) (list : List (List ℕ)) → IsSaid (zero_against condition (counted list))
zero_against_said condition (a ∷ b ∷ []) =
    on_register a (λ rs2. and_then (target_in b) (λ target. Ok (say.Branch condition 0 rs2 target)))
    (λ rs2 y. on_any (target_in b) (λ target. Ok (say.Branch condition 0 rs2 target)) (λ target. (register_0, y)))
zero_against_said condition (a ∷ b ∷ c ∷ []) = tt
zero_against_said condition others = tt

jump_to_said : (rd : ℕ) (target : List ℕ) → IsRegister rd → IsSaid (jump_to rd target)
jump_to_said rd target d = on_any (target_in target) (λ target. Ok (say.Jump rd target)) (λ target. d)

jump_said : (list : List (List ℕ)) → IsSaid (jump (counted list))
jump_said (a ∷ []) = jump_to_said 0 a register_0
jump_said (a ∷ b ∷ c ∷ []) = tt
jump_said others = tt

jump_and_link_said : (list : List (List ℕ)) → IsSaid (jump_and_link (counted list))
jump_and_link_said (a ∷ []) = jump_to_said 1 a register_1
jump_and_link_said (a ∷ b ∷ []) = on_register a (λ rd. jump_to rd b) (λ rd d. jump_to_said rd b d)
jump_and_link_said (a ∷ b ∷ c ∷ []) = tt
jump_and_link_said others = tt

jump_register_to_said : (rd : ℕ) (rs1 : List ℕ) → IsRegister rd → IsSaid (jump_register_to rd rs1)
jump_register_to_said rd rs1 d =
    on_register rs1 (λ rs1. Ok (say.One (i.Jalr rd rs1 0))) (λ rs1 x. (d, x, short_0))

jump_register_said : (list : List (List ℕ)) → IsSaid (jump_register (counted list))
jump_register_said (a ∷ []) = jump_register_to_said 0 a register_0
jump_register_said (a ∷ b ∷ c ∷ []) = tt
jump_register_said others = tt

jump_and_link_register_said : (list : List (List ℕ)) → IsSaid (jump_and_link_register (counted list))
jump_and_link_register_said (a ∷ []) = jump_register_to_said 1 a register_1
jump_and_link_register_said (a ∷ b ∷ []) = load_said m.Jalr (a ∷ b ∷ [])
jump_and_link_register_said (a ∷ b ∷ c ∷ []) = immediate_said m.Jalr (a ∷ b ∷ c ∷ [])
jump_and_link_register_said others = tt

upper_by_said : (rd : ℕ) (text : List ℕ) (found : Option (List ℕ)) → IsRegister rd → IsSaid (upper_by rd text found)
upper_by_said rd text None d =
    gives_then IsUpper IsCoded (upper_in text) (λ imm. Ok (say.One (i.Lui rd imm))) (upper_whole text) (λ imm h. (d, h))
upper_by_said rd text (Some after) d = on_any (part_in after) (λ label. Ok (say.Upper rd label)) (λ label. d)

load_upper_said : (list : List (List ℕ)) → IsSaid (load_upper (counted list))
load_upper_said (a ∷ b ∷ []) =
    on_register a (λ rd. upper_by rd b (stripped (codes "%hi") b)) (λ rd d. upper_by_said rd b (stripped (codes "%hi") b) d)
load_upper_said (a ∷ b ∷ c ∷ []) = tt
load_upper_said others = tt

add_upper_said : (list : List (List ℕ)) → IsSaid (add_upper (counted list))
add_upper_said (a ∷ b ∷ []) =
    on_register a (λ rd. and_then (upper_in b) (λ imm. Ok (say.One (i.Auipc rd imm))))
    (λ rd d. gives_then IsUpper IsCoded (upper_in b) (λ imm. Ok (say.One (i.Auipc rd imm))) (upper_whole b)
    (λ imm h. (d, h)))
add_upper_said (a ∷ b ∷ c ∷ []) = tt
add_upper_said others = tt

constant_said : (rd n : ℕ) → IsRegister rd → n < 2 ^ 32 → IsCoded (constant rd n)
constant_said rd n d fits =
    by (nat_lt ((n + 2048) % 2 ^ 32) 4096) refl _
    (either IsCoded (n % 4096 == 0) (say.One (i.Lui rd (upper_part n))) (say.Two (i.Lui rd (upper_part n)) (i.Addi rd rd (lower_part n)))
    upper (upper, (d, d, lower_is n)))
  where
    upper : Fits (i.Lui rd (upper_part n))
    upper = (d, upper_is n)

    by : (b : Bool) → nat_lt ((n + 2048) % 2 ^ 32) 4096 ≡ b → (other : Statement) → IsCoded other
        → IsCoded (cond b (say.One (i.Addi rd 0 n)) other)
    by true e other h = (d, register_0, record { fits = fits; near = lt_of_test ((n + 2048) % 2 ^ 32) 4096 e })
    by false e other h = h

load_immediate_said : (list : List (List ℕ)) → IsSaid (load_immediate (counted list))
load_immediate_said (a ∷ b ∷ []) =
    on_register a (λ rd. and_then (constant_in b) (λ n. Ok (constant rd n)))
    (λ rd d. gives_then (λ n. n < 2 ^ 32) IsCoded (constant_in b) (λ n. Ok (constant rd n)) (constant_small b)
    (λ n h. constant_said rd n d h))
load_immediate_said (a ∷ b ∷ c ∷ []) = tt
load_immediate_said others = tt

load_address_said : (list : List (List ℕ)) → IsSaid (load_address (counted list))
load_address_said (a ∷ b ∷ []) =
    on_register a (λ rd. and_then (label_in b) (λ label. Ok (say.LoadAddress rd label)))
    (λ rd d. on_any (label_in b) (λ label. Ok (say.LoadAddress rd label)) (λ label. d))
load_address_said (a ∷ b ∷ c ∷ []) = tt
load_address_said others = tt

call_said : (list : List (List ℕ)) → IsSaid (call (counted list))
call_said (a ∷ []) = on_any (label_in a) (λ label. Ok (say.Call label)) (λ label. tt)
call_said (a ∷ b ∷ c ∷ []) = tt
call_said others = tt

fence_said : (list : List (List ℕ)) → IsSaid (fence (counted list))
fence_said [] = (lit< tt, lit< tt, lit< tt, register_0, register_0)
fence_said (a ∷ b ∷ []) =
    gives_then (λ n. n < 2 ^ 4) IsCoded (set_in a) (λ before. and_then (set_in b) (λ after. Ok (say.One (i.Fence 0 before after 0 0))))
    (set_small a)
    (λ before p. gives_then (λ n. n < 2 ^ 4) IsCoded (set_in b) (λ after. Ok (say.One (i.Fence 0 before after 0 0))) (set_small b)
    (λ after q. (lit< tt, p, q, register_0, register_0)))
fence_said (a ∷ b ∷ c ∷ []) = tt
fence_said others = tt

space_said : (list : List (List ℕ)) → IsSaid (space (counted list))
space_said (a ∷ []) = on_any (bits_in 0 16777216 a) (λ size. Ok (say.Space size)) (λ size. tt)
space_said (a ∷ b ∷ c ∷ []) = tt
space_said others = tt

align_said : (list : List (List ℕ)) → IsSaid (align (counted list))
align_said (a ∷ []) = on_any (bits_in 0 12 a) (λ power. Ok (say.Align power)) (λ power. tt)
align_said (a ∷ b ∷ c ∷ []) = tt
align_said others = tt

section_said : (list : List (List ℕ)) → IsSaid (section (counted list))
section_said (a ∷ b ∷ c ∷ []) = tt
section_said others = tt

global_said : (list : List (List ℕ)) → IsSaid (global (counted list))
global_said (a ∷ []) = on_any (label_in a) (λ label. Ok say.Nothing) (λ label. tt)
global_said (a ∷ b ∷ c ∷ []) = tt
global_said others = tt

stated_said : (width : Width) (text : List ℕ) → IsSaid (stated width text)
stated_said width text =
    either IsSaid ((length text == 0) || not (are_formed width text)) (Err BadOperand)
    (and_then (items_in width text) (λ items. Ok (say.Data width items))) tt
    (on_any (items_in width text) (λ items. Ok (say.Data width items)) (λ items. tt))

-- ---- the tables

-- whatever stands after a mnemonic, what they say has its operands in their ranges
abbrev Means : Mnemonic → Type 0
Means mnemonic = (list : List (List ℕ)) (text : List ℕ) → IsSaid (meaning mnemonic (counted list) text)

abbrev AllRows : List (List ℕ × Mnemonic) → Type 0
AllRows [] = Unit {0}
AllRows ((name, mnemonic) ∷ rows) = Means mnemonic × AllRows rows

abbrev AllTables : List (List (List ℕ × Mnemonic)) → Type 0
AllTables [] = Unit {0}
AllTables (rows ∷ tables) = AllRows rows × AllTables tables

row_means : (rows : List (List ℕ × Mnemonic)) (text : List ℕ) → AllRows rows → OfFound Means (named rows text)
row_means [] text h = tt
row_means ((name, mnemonic) ∷ rows) text (h, hs) =
    either (OfFound Means) (bytes_eq text name) (Some mnemonic) (named rows text) h (row_means rows text hs)

or_else_means : (one other : Option Mnemonic) → OfFound Means one → OfFound Means other → OfFound Means (or_else one other)
or_else_means None other h g = g
or_else_means (Some mnemonic) other h g = h

table_means : (tables : List (List (List ℕ × Mnemonic))) (text : List ℕ) → AllTables tables → OfFound Means (first_named tables text)
table_means [] text h = tt
table_means (rows ∷ tables) text (h, hs) =
    or_else_means (named rows text) (first_named tables text) (row_means rows text h) (table_means tables text hs)

-- a row, or a table, before others
infixr 10 ◌⨾◌
◌⨾◌ : {A B : Type 0} → A → B → A × B
◌⨾◌ a b = (a, b)

immediate_rows : AllRows immediate_mnemonics
immediate_rows =
    (λ list text. immediate_said m.Addi list)
    ⨾ (λ list text. immediate_said m.Slti list)
    ⨾ (λ list text. immediate_said m.Sltiu list)
    ⨾ (λ list text. immediate_said m.Xori list)
    ⨾ (λ list text. immediate_said m.Ori list)
    ⨾ (λ list text. immediate_said m.Andi list)
    ⨾ (elim [ a ∷ b ∷ c ∷ [] ↦ λ text. shift_said i.Slli (λ rd rs1 shamt d x h. (d, x, h)) a b c | _ ↦ λ text. tt ])
    ⨾ (elim [ a ∷ b ∷ c ∷ [] ↦ λ text. shift_said i.Srli (λ rd rs1 shamt d x h. (d, x, h)) a b c | _ ↦ λ text. tt ])
    ⨾ (elim [ a ∷ b ∷ c ∷ [] ↦ λ text. shift_said i.Srai (λ rd rs1 shamt d x h. (d, x, h)) a b c | _ ↦ λ text. tt ])
    ⨾ tt

access_rows : AllRows access_mnemonics
access_rows =
    (λ list text. load_said m.Lw list)
    ⨾ (λ list text. load_said m.Lb list)
    ⨾ (λ list text. load_said m.Lh list)
    ⨾ (λ list text. load_said m.Lbu list)
    ⨾ (λ list text. load_said m.Lhu list)
    ⨾ (λ list text. store_said t.Sw list)
    ⨾ (λ list text. store_said t.Sb list)
    ⨾ (λ list text. store_said t.Sh list)
    ⨾ tt

branch_rows : AllRows branch_mnemonics
branch_rows =
    (λ list text. branch_said c.Equal list)
    ⨾ (λ list text. branch_said c.NotEqual list)
    ⨾ (λ list text. branch_said c.LessThan list)
    ⨾ (λ list text. branch_said c.GreaterOrEqual list)
    ⨾ (λ list text. branch_said c.LessThanUnsigned list)
    ⨾ (λ list text. branch_said c.GreaterOrEqualUnsigned list)
    ⨾ (λ list text. swapped_said c.LessThan list)
    ⨾ (λ list text. swapped_said c.GreaterOrEqual list)
    ⨾ (λ list text. swapped_said c.LessThanUnsigned list)
    ⨾ (λ list text. swapped_said c.GreaterOrEqualUnsigned list)
    ⨾ tt

zero_branch_rows : AllRows zero_branch_mnemonics
zero_branch_rows =
    (λ list text. against_zero_said c.Equal list)
    ⨾ (λ list text. against_zero_said c.NotEqual list)
    ⨾ (λ list text. against_zero_said c.GreaterOrEqual list)
    ⨾ (λ list text. against_zero_said c.LessThan list)
    ⨾ (λ list text. zero_against_said c.GreaterOrEqual list)
    ⨾ (λ list text. zero_against_said c.LessThan list)
    ⨾ tt

register_rows : AllRows register_mnemonics
register_rows =
    (elim [ a ∷ b ∷ c ∷ [] ↦ λ text. three_said i.Add (λ rd rs1 rs2 d x y. (d, x, y)) a b c | _ ↦ λ text. tt ])
    ⨾ (elim [ a ∷ b ∷ c ∷ [] ↦ λ text. three_said i.Sub (λ rd rs1 rs2 d x y. (d, x, y)) a b c | _ ↦ λ text. tt ])
    ⨾ (elim [ a ∷ b ∷ c ∷ [] ↦ λ text. three_said i.Sll (λ rd rs1 rs2 d x y. (d, x, y)) a b c | _ ↦ λ text. tt ])
    ⨾ (elim [ a ∷ b ∷ c ∷ [] ↦ λ text. three_said i.Slt (λ rd rs1 rs2 d x y. (d, x, y)) a b c | _ ↦ λ text. tt ])
    ⨾ (elim [ a ∷ b ∷ c ∷ [] ↦ λ text. three_said i.Sltu (λ rd rs1 rs2 d x y. (d, x, y)) a b c | _ ↦ λ text. tt ])
    ⨾ (elim [ a ∷ b ∷ c ∷ [] ↦ λ text. three_said i.Xor (λ rd rs1 rs2 d x y. (d, x, y)) a b c | _ ↦ λ text. tt ])
    ⨾ (elim [ a ∷ b ∷ c ∷ [] ↦ λ text. three_said i.Srl (λ rd rs1 rs2 d x y. (d, x, y)) a b c | _ ↦ λ text. tt ])
    ⨾ (elim [ a ∷ b ∷ c ∷ [] ↦ λ text. three_said i.Sra (λ rd rs1 rs2 d x y. (d, x, y)) a b c | _ ↦ λ text. tt ])
    ⨾ (elim [ a ∷ b ∷ c ∷ [] ↦ λ text. three_said i.Or (λ rd rs1 rs2 d x y. (d, x, y)) a b c | _ ↦ λ text. tt ])
    ⨾ (elim [ a ∷ b ∷ c ∷ [] ↦ λ text. three_said i.And (λ rd rs1 rs2 d x y. (d, x, y)) a b c | _ ↦ λ text. tt ])
    ⨾ tt

copy_rows : AllRows copy_mnemonics
copy_rows =
    (elim [
      | a ∷ b ∷ [] ↦ λ text. two_said (λ rd rs. i.Addi rd rs 0) (λ rd rs d x. (d, x, short_0)) a b
      | a ∷ b ∷ c ∷ [] ↦ λ text. tt
      | _ ↦ λ text. tt
    ])
    ⨾ (elim [
      | a ∷ b ∷ [] ↦ λ text. two_said (λ rd rs. i.Xori rd rs 0xffffffff) (λ rd rs d x. (d, x, short_below 1 (lit≤ tt))) a b
      | a ∷ b ∷ c ∷ [] ↦ λ text. tt
      | _ ↦ λ text. tt
    ])
    ⨾ (elim [
      | a ∷ b ∷ [] ↦ λ text. two_said (λ rd rs. i.Sltiu rd rs 1) (λ rd rs d x. (d, x, short_above 1 (lit≤ tt))) a b
      | a ∷ b ∷ c ∷ [] ↦ λ text. tt
      | _ ↦ λ text. tt
    ])
    ⨾ (elim [
      | a ∷ b ∷ [] ↦ λ text. two_said (λ rd rs. i.Sub rd 0 rs) (λ rd rs d x. (d, register_0, x)) a b
      | a ∷ b ∷ c ∷ [] ↦ λ text. tt
      | _ ↦ λ text. tt
    ])
    ⨾ (elim [
      | a ∷ b ∷ [] ↦ λ text. two_said (λ rd rs. i.Sltu rd 0 rs) (λ rd rs d x. (d, register_0, x)) a b
      | a ∷ b ∷ c ∷ [] ↦ λ text. tt
      | _ ↦ λ text. tt
    ])
    ⨾ (elim [
      | a ∷ b ∷ [] ↦ λ text. two_said (λ rd rs. i.Slt rd 0 rs) (λ rd rs d x. (d, register_0, x)) a b
      | a ∷ b ∷ c ∷ [] ↦ λ text. tt
      | _ ↦ λ text. tt
    ])
    ⨾ (elim [
      | a ∷ b ∷ [] ↦ λ text. two_said (λ rd rs. i.Slt rd rs 0) (λ rd rs d x. (d, x, register_0)) a b
      | a ∷ b ∷ c ∷ [] ↦ λ text. tt
      | _ ↦ λ text. tt
    ])
    ⨾ tt

jump_rows : AllRows jump_mnemonics
jump_rows =
    (λ list text. load_immediate_said list)
    ⨾ (λ list text. load_address_said list)
    ⨾ (λ list text. call_said list)
    ⨾ (λ list text. jump_said list)
    ⨾ (λ list text. jump_and_link_said list)
    ⨾ (λ list text. jump_and_link_register_said list)
    ⨾ (λ list text. jump_register_said list)
    ⨾ (λ list text. load_upper_said list)
    ⨾ (λ list text. add_upper_said list)
    ⨾ tt

return_fits : Fits (i.Jalr 0 1 0)
return_fits = (register_0, register_1, short_0)

nop_fits : Fits (i.Addi 0 0 0)
nop_fits = (register_0, register_0, short_0)

plain_rows : AllRows plain_mnemonics
plain_rows =
    (elim [ [] ↦ λ text. return_fits | a ∷ b ∷ c ∷ [] ↦ λ text. tt | _ ↦ λ text. tt ])
    ⨾ (elim [ [] ↦ λ text. nop_fits | a ∷ b ∷ c ∷ [] ↦ λ text. tt | _ ↦ λ text. tt ])
    ⨾ (elim [ [] ↦ λ text. tt | a ∷ b ∷ c ∷ [] ↦ λ text. tt | _ ↦ λ text. tt ])
    ⨾ (elim [ [] ↦ λ text. tt | a ∷ b ∷ c ∷ [] ↦ λ text. tt | _ ↦ λ text. tt ])
    ⨾ (λ list text. fence_said list)
    ⨾ tt

directive_rows : AllRows directives
directive_rows =
    (λ list text. stated_said Word text)
    ⨾ (λ list text. stated_said Half text)
    ⨾ (λ list text. stated_said Byte text)
    ⨾ (λ list text. space_said list)
    ⨾ (λ list text. align_said list)
    ⨾ (λ list text. section_said list)
    ⨾ (λ list text. section_said list)
    ⨾ (λ list text. global_said list)
    ⨾ (λ list text. global_said list)
    ⨾ tt

mnemonic_means : (text : List ℕ) → OfFound Means (mnemonic_of text)
mnemonic_means text =
    table_means
    (immediate_mnemonics ∷ access_mnemonics ∷ branch_mnemonics ∷ zero_branch_mnemonics ∷ register_mnemonics ∷ copy_mnemonics ∷
    jump_mnemonics ∷ plain_mnemonics ∷ directives ∷ []) text
    (immediate_rows ⨾ access_rows ⨾ branch_rows ⨾ zero_branch_rows ⨾ register_rows ⨾ copy_rows ⨾ jump_rows ⨾ plain_rows ⨾
    directive_rows ⨾ tt)

-- ---- lines

said_by_gives : (found : Option Mnemonic) (text : List ℕ) → OfFound Means found → IsSaid (said_by found text)
said_by_gives None text h = tt
said_by_gives (Some mnemonic) text h = h (operand_list text) text

said_gives : (mnemonic text : List ℕ) → IsSaid (said mnemonic text)
said_gives mnemonic text =
    either IsSaid (is_name mnemonic && are_operands text) (said_by (mnemonic_of mnemonic) text) (Err Syntax)
    (said_by_gives (mnemonic_of mnemonic) text (mnemonic_means mnemonic)) tt

said_at_gives : (text : List ℕ) (found : Option ℕ) → IsSaid (said_at text found)
said_at_gives text None = said_gives text []
said_at_gives text (Some k) = search said_gives

-- a statement that there may be
abbrev pub IsCodedAt : Option Statement → Type 0
IsCodedAt None = Unit {0}
IsCodedAt (Some statement) = IsCoded statement

stating_gives : (said : Said) → IsSaid said → Gives IsCodedAt (stating said)
stating_gives (Ok statement) h = h
stating_gives (Err error) h = tt

statement_gives : (text : List ℕ) → Gives IsCodedAt (statement_in text)
statement_gives text =
    either (Gives IsCodedAt) (length text == 0) (Ok None) _ tt (search (stating_gives, said_at_gives))

line_gives : (labels : List (List ℕ)) (statement : Result (Option Statement) LineError) → Gives IsCodedAt statement
    → Gives (λ (line : Line). IsCodedAt line.statement) (line_of labels statement)
line_gives labels (Ok statement) h = h
line_gives labels (Err error) h = tt

-- what a line states, whatever the line
pub line_is_coded : (text : List ℕ) → Gives (λ (line : Line). IsCodedAt line.statement) (read text)
unfolding read
line_is_coded text = search (line_gives, statement_gives)
