-- Copies of the texts that a session was given: the first has the number 1, and they count up.
use Rattle.std.specs.Prelude.{◌≡◌, ℕ, Bool, true, false, List, [], ◌∷◌, ◌++◌, Option, Some, None, ⊤, codes, decimal}

-- a copy: its number, and the text
pub record Copy : Type 0 where
  pub number : ℕ
  pub text : List ℕ

-- the copies that were kept so far, where they are known
abbrev pub KnownCopies : Type 0
KnownCopies = Option (List Copy)

-- known copies grow by these
abbrev pub Adds : KnownCopies → KnownCopies → List Copy → Type 0
Adds None new copies = ⊤
Adds (Some past) None copies = ⊥
Adds (Some past) (Some now) copies = now ≡ past ++ copies

-- the copy that was kept, if it was
abbrev pub copy_if : ℕ → List ℕ → Bool → List Copy
copy_if number text true = record { number = number; text = text } ∷ []
copy_if number text false = []

abbrev pub Keeps : ℕ → List ℕ → Bool → KnownCopies → KnownCopies → Type 0
Keeps number text is_kept old new = Adds old new (copy_if number text is_kept)

-- the path of a copy, from where the script stands
abbrev pub path_of : ℕ → List ℕ
path_of number = decimal number ++ codes ".s"
