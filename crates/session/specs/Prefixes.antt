-- A prefix of a list.
use Rattle.std.specs.Prelude.{◌≡◌, List, ◌++◌}

-- these, and then others, are all
abbrev pub IsPrefixOf : {X : Type 0} → List X → List X → Type 0
IsPrefixOf {X} prefix all = (rest : List X) × (all ≡ prefix ++ rest)
