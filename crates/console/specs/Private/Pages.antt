-- A page: words, and places for facts. A screen has a piece for each part of its page, in their order: the words, the fact that
-- belongs in the place, or, where it is not known, that it is not.
use Rattle.std.specs.Prelude.{◌≡◌, ℕ, ◌+◌, List, [], ◌∷◌, ◌++◌, Option, Some, None, nat_lt, map, slice_get, string_bytes, String, if◌then◌else◌}
use Rattle.std.specs.declared.alloc.Global.{Global}
use Rattle.facts.specs.Facts.{Facts}
use Rattle.console.specs.Screens.{listed}
use Rattle.console.specs.declared.page.Part.{Part}
use Rattle.console.specs.declared.page.Part.TheVariants as part
use Rattle.console.specs.declared.piece.Piece.{Piece}
use Rattle.console.specs.declared.piece.Piece.TheVariants as piece
use Rattle.console.specs.declared.piece.Tone.{Tone}

-- what is made of a fact that is known
abbrev pub known : {A : Type 0} → (A → Piece) → Option A → Piece
known piece_of None = piece.Unknown
known piece_of (Some fact) = piece_of fact

-- four bytes, if all are known
abbrev pub all_known : Option ℕ → Option ℕ → Option ℕ → Option ℕ → Option (ℕ × ℕ × ℕ × ℕ)
all_known (Some first) (Some second) (Some third) (Some fourth) = Some (first, second, third, fourth)
all_known first second third fourth = None

-- the word at an address by its bytes; at the last three addresses there is none
abbrev pub word_at : Facts → ℕ → Option (ℕ × ℕ × ℕ × ℕ)
word_at facts address = if nat_lt 4294967292 address then None
    else all_known (facts.byte address) (facts.byte (address + 1)) (facts.byte (address + 2)) (facts.byte (address + 3))

-- what a part becomes
abbrev pub piece_of : List ℕ → Facts → Part → Piece
piece_of path facts (part.Words tone words) = piece.Words tone words
piece_of path facts part.Run = piece.Run facts.run
piece_of path facts (part.Register form number) = known (piece.Register form number) (facts.register number)
piece_of path facts (part.Word address) = known (λ w. piece.Word address w.0 w.1 w.2 w.3) (word_at facts address)
piece_of path facts (part.Byte address) = known (piece.Byte address) (facts.byte address)
piece_of path facts (part.Frame index) = known (piece.Frame index) (facts.frame index)
piece_of path facts (part.Break list index) = known (piece.Break list index) (slice_get (listed path facts list) index)

-- what a page becomes
abbrev pub pieces_of : List ℕ → Facts → List Part → List Piece
pieces_of path facts parts = map (piece_of path facts) parts

-- words of a tone were added to the parts of a page
abbrev pub HaveWords : Tone → List ℕ → List Part → List Part → Type 0
HaveWords tone text old new = (words : String Global) × ((string_bytes words ≡ text) × (new ≡ old ++ part.Words tone words ∷ []))
