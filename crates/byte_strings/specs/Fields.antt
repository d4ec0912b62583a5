-- A text divided at a byte.
use Rattle.std.specs.Prelude.{◌≡◌, ℕ, ◌+◌, ◌==◌, List, [], ◌∷◌, take, drop, position, Option, Some, None, codes, refl}
use Rattle.std.specs.List.{slice_split}

-- a text before and after this index
abbrev pub parted_at : List ℕ → Option ℕ → Option (List ℕ × List ℕ)
parted_at text None = None
parted_at text (Some i) = Some (take i text, drop (i + 1) text)

-- a text before and after the first of a byte, if there is one
abbrev pub parted : ℕ → List ℕ → Option (List ℕ × List ℕ)
parted byte text = parted_at text (position (λ b. b == byte) text)

-- the fields of a text that is divided at each of a byte: one more than there are such bytes
abbrev pub fields : ℕ → List ℕ → List (List ℕ)
fields byte text = slice_split (λ b. b == byte) text

-- the fields in what follows such a byte
abbrev pub fields_after : ℕ → Option (List ℕ) → List (List ℕ)
fields_after byte None = []
fields_after byte (Some text) = fields byte text

fields_of : fields 44 (codes "a,,b") ≡ codes "a" ∷ [] ∷ codes "b" ∷ []
fields_of = refl
