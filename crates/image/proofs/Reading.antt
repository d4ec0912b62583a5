-- What is read of pages.
use Rattle.image.proofs.Common.{[], ap, AreWhole, arith, Bool, byte_at, bytes_at, drop, drop-replicate, eqb, false, fault_at, flat, get_or, Global, inl, inr, IsPage, leb, length, List, little_endian, ltb, nat_tests, None, Ok, Option, page_bytes, refl, replicate, slice_get, Some, suc, take, take-replicate, true, unless_fault, Vec, zero, ℕ, ◌%◌, ◌*◌, ◌+◌, ◌-◌, ◌/◌, ◌<◌, ◌^◌, ◌∙◌, ◌∷◌, ◌≡◌, ◌≤◌}
use Rattle.image.specs.declared.fault.MemFault.{MemFault}
use Rattle.image.specs.declared.fault.MemFault.TheVariants.{Outside}
use Rattle.image.specs.Private.Pages.{zeros}
use Rattle.image.proofs.Flat.{Pages, flat_length, none_past, one, part}
use Rattle.image.proofs.Places.{Lies, place_of}

-- bytes that all lie in memory
pub no_fault : (ps : Pages) (addr aligned n : ℕ) → AreWhole ps → 1 ≤ n → 65536 ≤ addr → addr + n ≤ 65536 + 4096 * length ps
    → addr % aligned ≡ 0 → fault_at (flat ps) aligned addr n ≡ None
no_fault ps addr aligned n w some from to a =
    let all : length (flat ps) ≡ 4096 * length ps = flat_length ps w.each in
    let e : eqb (addr % aligned) 0 ≡ true = ap (λ x. eqb x 0) a in
    let z : eqb n 0 ≡ false = grind (arith, nat_tests) in
    let low : leb 65536 addr ≡ true = grind (arith, nat_tests) in
    let high : leb (addr + n) (65536 + length (flat ps)) ≡ true =
    (let x : addr + n ≤ 65536 + length (flat ps) = omega (arith, all, to) in grind (arith, nat_tests)) in
    rw (e, z, low, high) refl

-- the same, within one page
pub no_fault_in_page : (ps : Pages) (addr index offset aligned n : ℕ) → AreWhole ps → Lies addr index offset → index < length ps → 1 ≤ n
    → offset + n ≤ 4096 → addr % aligned ≡ 0 → fault_at (flat ps) aligned addr n ≡ None
no_fault_in_page ps addr index offset aligned n w l h some fits a =
    no_fault ps addr aligned n w some l.low (omega (arith, l.low, l.place, h, fits)) a

pub outside : (ps : Pages) (addr aligned n : ℕ) → AreWhole ps → addr < 2 ^ 32 → 1 ≤ n → addr % aligned ≡ 0
    → 4096 * length ps < place_of addr + n → fault_at (flat ps) aligned addr n ≡ Some Outside
outside ps addr aligned n w fits some a h = by (leb 65536 addr) refl (flat_length ps w.each) where
  by : (b : Bool) → leb 65536 addr ≡ b → length (flat ps) ≡ 4096 * length ps → fault_at (flat ps) aligned addr n ≡ Some Outside
  by true t all =
      let e : eqb (addr % aligned) 0 ≡ true = ap (λ x. eqb x 0) a in
      let z : eqb n 0 ≡ false = grind (arith, nat_tests) in
      let low : 65536 ≤ addr = grind (arith, nat_tests) in
      let past : 65536 + length (flat ps) < addr + n = omega (arith, all, low, h, fits) in
      let high : leb (addr + n) (65536 + length (flat ps)) ≡ false = grind (arith, nat_tests) in
      rw (e, z, t, high) refl
  by false t all =
      let e : eqb (addr % aligned) 0 ≡ true = ap (λ x. eqb x 0) a in
      let z : eqb n 0 ≡ false = grind (arith, nat_tests) in
      rw (e, z, t) refl

-- the same, of an address whose page is not there
pub outside_pages : (ps : Pages) (addr aligned n : ℕ) → AreWhole ps → addr < 2 ^ 32 → 1 ≤ n → addr % aligned ≡ 0
    → length ps ≤ place_of addr / 4096 → fault_at (flat ps) aligned addr n ≡ Some Outside
outside_pages ps addr aligned n w fits some a h = outside ps addr aligned n w fits some a (omega (arith, h, some))

-- a number of as many bytes as its address is a multiple of
pub number_inside : (ps : Pages) (addr index offset n : ℕ) (d : Vec ℕ Global) → AreWhole ps → Lies addr index offset → index < length ps
    → 1 ≤ n → offset + n ≤ 4096 → addr % n ≡ 0
    → unless_fault (fault_at (flat ps) n addr n) (little_endian (bytes_at (flat ps) addr n))
    ≡ Ok (little_endian (take n (drop offset (page_bytes (get_or ps index d).items))))
number_inside ps addr index offset n d w l h some fits a =
    let reads = ap (λ k. take n (drop k (flat ps))) l.place ∙ part ps index offset n d w.each h fits in
    ap (λ (f : Option MemFault). unless_fault f (little_endian (bytes_at (flat ps) addr n)))
    (no_fault_in_page ps addr index offset n n w l h some fits a)
    ∙ ap (λ b. Ok (little_endian b)) reads

-- and the bytes that make it up
pub bytes_inside : (ps : Pages) (addr index offset n : ℕ) (d : Vec ℕ Global) → AreWhole ps → Lies addr index offset → index < length ps
    → 1 ≤ n → offset + n ≤ 4096 → addr % n ≡ 0
    → unless_fault (fault_at (flat ps) n addr n) (bytes_at (flat ps) addr n)
    ≡ Ok (take n (drop offset (page_bytes (get_or ps index d).items)))
bytes_inside ps addr index offset n d w l h some fits a =
    let reads = ap (λ k. take n (drop k (flat ps))) l.place ∙ part ps index offset n d w.each h fits in
    ap (λ (f : Option MemFault). unless_fault f (bytes_at (flat ps) addr n)) (no_fault_in_page ps addr index offset n n w l h some fits a)
    ∙ ap (λ b. Ok b) reads

-- a page that was made, and one that was not
pub has_all : (p : List ℕ) (o n : ℕ) → o + suc n ≤ length p → page_bytes p ≡ p
has_all [] o n h = absurd (omega arith)
has_all (b ∷ bs) o n h = refl

pub is_blank : (p : List ℕ) (o n : ℕ) → IsPage p → length p < o + n → o + n ≤ 4096 → page_bytes p ≡ zeros
is_blank [] o n is h w = refl
is_blank (b ∷ bs) o n (inl e) h w = absurd (omega (arith, e))
is_blank (b ∷ bs) o n (inr e) h w = absurd (omega (arith, e, h, w))

pub blank_part : (o n : ℕ) → o + n ≤ 4096 → take n (drop o zeros) ≡ replicate n 0
unfolding zeros
blank_part o n h =
    let m : n ≤ 4096 - o = omega arith in
    ap (take n) (drop-replicate {X = ℕ} o 4096 0) ∙ take-replicate {X = ℕ} n (4096 - o) 0 m

worth_nothing : (n : ℕ) → little_endian (replicate n 0) ≡ 0
worth_nothing zero = refl
worth_nothing (suc n) = ap (λ k. 0 + 256 * k) (worth_nothing n)

pub blank_number : (o n : ℕ) → o + n ≤ 4096 → little_endian (take n (drop o zeros)) ≡ 0
blank_number o n h = ap little_endian (blank_part o n h) ∙ worth_nothing n

-- ---- one byte

pub byte_outside : (ps : Pages) (addr : ℕ) → AreWhole ps → addr < 2 ^ 32 → length ps ≤ place_of addr / 4096 → byte_at (flat ps) addr ≡ None
byte_outside ps addr w fits h = by (ltb addr 65536) refl (flat_length ps w.each) where
  by : (b : Bool) → ltb addr 65536 ≡ b → length (flat ps) ≡ 4096 * length ps → byte_at (flat ps) addr ≡ None
  by true t all = rw t refl
  by false t all =
      let low : 65536 ≤ addr = grind (arith, nat_tests) in
      let past : length (flat ps) ≤ addr - 65536 = omega (arith, all, low, h, fits) in
      rw t (none_past (flat ps) (addr - 65536) past)

pub byte_inside : (ps : Pages) (addr index offset : ℕ) (d : Vec ℕ Global) → AreWhole ps → Lies addr index offset → index < length ps
    → byte_at (flat ps) addr ≡ slice_get (page_bytes (get_or ps index d).items) offset
byte_inside ps addr index offset d w l h =
    let low : ltb addr 65536 ≡ false = (let x : 65536 ≤ addr = l.low in grind (arith, nat_tests)) in
    rw low (ap (slice_get (flat ps)) l.place ∙ one ps index offset d w.each h l.within)
