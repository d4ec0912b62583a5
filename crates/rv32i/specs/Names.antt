-- The names of the registers (RISC-V Unprivileged ISA 20191213, chapter 25, table 25.1).
use Rattle.std.specs.Prelude.{◌≡◌, ℕ, ◌<◌, ◌⊎◌, List, [], ◌∷◌, slice_index_or, bytes_eq, codes, find, Option, MatchOption}
use Rattle.std.specs.List.{range_with_len}

-- the names of x0 to x31
abbrev pub names : List (List ℕ)
names = codes "zero" ∷ codes "ra" ∷ codes "sp" ∷ codes "gp" ∷ codes "tp" ∷ codes "t0" ∷ codes "t1" ∷ codes "t2" ∷
    codes "s0" ∷ codes "s1" ∷ codes "a0" ∷ codes "a1" ∷ codes "a2" ∷ codes "a3" ∷ codes "a4" ∷ codes "a5" ∷ codes "a6" ∷
    codes "a7" ∷ codes "s2" ∷ codes "s3" ∷ codes "s4" ∷ codes "s5" ∷ codes "s6" ∷ codes "s7" ∷ codes "s8" ∷ codes "s9" ∷
    codes "s10" ∷ codes "s11" ∷ codes "t3" ∷ codes "t4" ∷ codes "t5" ∷ codes "t6" ∷ []

-- the same registers by their numbers
abbrev pub numbered_names : List (List ℕ)
numbered_names = codes "x0" ∷ codes "x1" ∷ codes "x2" ∷ codes "x3" ∷ codes "x4" ∷ codes "x5" ∷ codes "x6" ∷ codes "x7" ∷
    codes "x8" ∷ codes "x9" ∷ codes "x10" ∷ codes "x11" ∷ codes "x12" ∷ codes "x13" ∷ codes "x14" ∷ codes "x15" ∷
    codes "x16" ∷ codes "x17" ∷ codes "x18" ∷ codes "x19" ∷ codes "x20" ∷ codes "x21" ∷ codes "x22" ∷ codes "x23" ∷
    codes "x24" ∷ codes "x25" ∷ codes "x26" ∷ codes "x27" ∷ codes "x28" ∷ codes "x29" ∷ codes "x30" ∷ codes "x31" ∷ []

-- the name of a register
abbrev pub name_of : ℕ → List ℕ
name_of number = slice_index_or names number []

-- its name by its number
abbrev pub numbered_name_of : ℕ → List ℕ
numbered_name_of number = slice_index_or numbered_names number []

-- the register that has this name among x0 to x31, if one has: neither `fp` nor `x8` is the name of one
unfoldable pub number_named : List ℕ → Option ℕ
number_named name = find (λ number. bytes_eq (name_of number) name) (range_with_len 0 32)

-- A name means a register: it is its name, or its name by number, or fp, which is s0.
abbrev pub Names : List ℕ → ℕ → Type 0
Names name number = (number < 32)
    × ((name ≡ name_of number) ⊎ ((name ≡ numbered_name_of number) ⊎ ((name ≡ codes "fp") × (number ≡ 8))))

-- the register that a name means, or nothing where it means none
abbrev pub NamesOrNot : List ℕ → Option ℕ → Type 0
NamesOrNot name found = MatchOption found ((number : ℕ) → Names name number → ⊥) (λ number. Names name number)
