-- What is made of words and bytes is words and bytes.
use Rattle.range_laws.proofs.Common.{[], All-append, All-cons, All-drop, All-get_or, All-head, All-nil, All-replicate, All-set, All-tail, All-take, AreBytes, AreRegisters, AreWords, arith, bit_and, bit_or, bit_xor, Bool, byte_extended, bytes_at, cond, difference, drop, eqb, false, first_address, flag, get_or_past, halfword_bytes, halfword_extended, IsByte, IsWord, length, length-set, List, lit<, little_endian, ltb, ltb-true, nat_tests, negsuc, pos, refl, replicate, shifted_left, shifted_right, shifted_right_signed, signed, slice_index, slice_set, subst, suc, sum, sym, take, true, with_bytes, with_register, word_bytes, zero, ℕ, ℤ, ◌%◌, ◌*◌, ◌++◌, ◌+◌, ◌-◌, ◌/◌, ◌<◌, ◌^◌, ◌∷◌, ◌≡◌, ◌≤ℤ◌, ◌≤◌}
use Rattle.std.specs.Int.{cast_unsigned, int_shr, w32}
use Rattle.std.specs.Int.Bits.{and_lt}
use Rattle.std.proofs.Math.Nat.{div-le_self}
use Rattle.std.proofs.lemmas.Int.{ints}
use Rattle.std.proofs.lemmas.Nat.{or_of_32, xor_of_32}

-- ---- operations

pub wrapped : (n : ℕ) → IsWord (n % 2 ^ 32)
wrapped n = omega arith

pub sum_word : (a b : ℕ) → IsWord (sum a b)
sum_word a b = wrapped (a + b)

pub difference_word : (a b : ℕ) → IsWord (difference a b)
difference_word a b = wrapped (a + (2 ^ 32 - b))

pub flag_word : (test : Bool) → IsWord (flag test)
flag_word true = lit< tt
flag_word false = lit< tt

pub xor_word : (a b : ℕ) → IsWord a → IsWord b → IsWord (bit_xor a b)
xor_word a b h k = xor_of_32 a b h k

pub or_word : (a b : ℕ) → IsWord a → IsWord b → IsWord (bit_or a b)
or_word a b h k = or_of_32 a b h k

pub and_word : (a b : ℕ) → IsWord a → IsWord b → IsWord (bit_and a b)
and_word a b h k = and_lt 32 a b h k

pub left_word : (a by : ℕ) → IsWord (shifted_left a by)
left_word a by = wrapped (a * 2 ^ by)

pub right_word : (a by : ℕ) → IsWord a → IsWord (shifted_right a by)
right_word a by h = let less = div-le_self a (2 ^ by) in omega (arith, h, less)

shifted_word : (z : ℤ) (by : ℕ) → z ≤ℤ pos 2147483647 → IsWord (cast_unsigned w32 (int_shr z by))
shifted_word (pos n) by h =
    let less = div-le_self n (2 ^ by) in let small : n ≤ 2147483647 = omega (arith, ints, h) in omega (arith, less, small)
shifted_word (negsuc n) by h = omega arith

pub right_signed_word : (a by : ℕ) → IsWord (shifted_right_signed a by)
right_signed_word a by = shifted_word (signed a) by (omega (arith, ints))

pub to_even : (n : ℕ) → IsWord n → IsWord (n / 2 * 2)
to_even n h = omega (arith, h)

-- ---- bytes in memory

pub bytes_in_range : (memory : List ℕ) (address : ℕ) (bytes : List ℕ) → AreBytes memory → AreBytes bytes
    → AreBytes (with_bytes memory address bytes)
bytes_in_range memory address bytes h k =
    let kept = take (address - first_address) memory in
    let rest = drop (address - first_address + length bytes) memory in
    All-append IsByte (kept ++ bytes) rest
    (All-append IsByte kept bytes (All-take IsByte (address - first_address) memory h) k)
    (All-drop IsByte (address - first_address + length bytes) memory h)

-- what this many bytes are below
abbrev pub limit : ℕ → ℕ
limit zero = 1
limit (suc n) = 256 * limit n

limit_some : (n : ℕ) → 1 ≤ limit n
limit_some zero = omega arith
limit_some (suc n) = let rest = limit_some n in omega (arith, rest)

taken_below : (n : ℕ) (bytes : List ℕ) → AreBytes bytes → little_endian (take n bytes) < limit n
taken_below zero bytes h = lit< tt
taken_below (suc n) [] h = let some = limit_some n in omega (arith, some)
taken_below (suc n) (b ∷ bytes) h =
    let first : b < 256 = All-head IsByte b bytes h in
    let rest = taken_below n bytes (All-tail IsByte b bytes h) in
    omega (arith, first, rest)

-- the value of n bytes from an address on
pub read_below : (n : ℕ) (memory : List ℕ) (address : ℕ) → AreBytes memory → little_endian (bytes_at memory address n) < limit n
read_below n memory address h = taken_below n (drop (address - first_address) memory) (All-drop IsByte (address - first_address) memory h)

pub word_read : (memory : List ℕ) (address : ℕ) → AreBytes memory → IsWord (little_endian (bytes_at memory address 4))
word_read memory address h = read_below 4 memory address h

pub halfword_read : (memory : List ℕ) (address : ℕ) → AreBytes memory → little_endian (bytes_at memory address 2) < 2 ^ 16
halfword_read memory address h = read_below 2 memory address h

pub byte_read : (memory : List ℕ) (address : ℕ) → AreBytes memory → IsByte (little_endian (bytes_at memory address 1))
byte_read memory address h = read_below 1 memory address h

pub byte_extended_word : (a : ℕ) → IsByte a → IsWord (byte_extended a)
byte_extended_word a h = by (ltb a 128) where
  by : (b : Bool) → IsWord (cond b a (a + (2 ^ 32 - 2 ^ 8)))
  by true = omega (arith, h)
  by false = omega (arith, h)

pub halfword_extended_word : (a : ℕ) → a < 2 ^ 16 → IsWord (halfword_extended a)
halfword_extended_word a h = by (ltb a 32768) where
  by : (b : Bool) → IsWord (cond b a (a + (2 ^ 32 - 2 ^ 16)))
  by true = omega (arith, h)
  by false = omega (arith, h)

byte_of : (n : ℕ) → IsByte (n % 256)
byte_of n = omega arith

pub one_byte : (n : ℕ) → AreBytes (n % 256 ∷ [])
one_byte n = All-cons IsByte (n % 256) [] (byte_of n) (All-nil IsByte)

pub halfword_in_range : (n : ℕ) → AreBytes (halfword_bytes n)
halfword_in_range n = All-cons IsByte (n % 256) (n / 256 % 256 ∷ []) (byte_of n) (one_byte (n / 256))

pub word_in_range : (n : ℕ) → AreBytes (word_bytes n)
word_in_range n =
    All-cons IsByte (n % 256) (n / 256 % 256 ∷ n / 65536 % 256 ∷ n / 16777216 % 256 ∷ []) (byte_of n)
    (All-cons IsByte (n / 256 % 256) (n / 65536 % 256 ∷ n / 16777216 % 256 ∷ []) (byte_of (n / 256))
    (All-cons IsByte (n / 65536 % 256) (n / 16777216 % 256 ∷ []) (byte_of (n / 65536)) (one_byte (n / 16777216))))

-- ---- registers

pub register_word : (x : List ℕ) (r : ℕ) → AreWords x → IsWord (slice_index x r)
register_word x r h = by (ltb r (length x)) refl where
  by : (b : Bool) → ltb r (length x) ≡ b → IsWord (slice_index x r)
  by true e = All-get_or IsWord x r 0 (ltb-true r (length x) e) h
  by false e =
      let past : slice_index x r ≡ 0 = get_or_past x r 0 (let le : length x ≤ r = grind (arith, nat_tests) in le) in
      subst IsWord (sym past) (lit< tt)

pub registers_in_range : (r v : ℕ) (x : List ℕ) → IsWord v → AreRegisters x → AreRegisters (slice_set x r v)
registers_in_range r v x w h = record { count = rw (length-set x r v) h.count; words = All-set IsWord x r v w h.words }

pub with_register_in_range : (r v : ℕ) (x : List ℕ) → IsWord v → AreRegisters x → AreRegisters (with_register r v x)
with_register_in_range r v x w h = by (eqb r 0) where
  by : (b : Bool) → AreRegisters (cond b x (slice_set x r v))
  by true = h
  by false = registers_in_range r v x w h

pub started_in_range : (sp : ℕ) → IsWord sp → AreRegisters (slice_set (replicate 32 0) 2 sp)
started_in_range sp w = registers_in_range 2 sp (replicate 32 0) w (record { count = refl; words = All-replicate IsWord 32 0 (lit< tt) })
