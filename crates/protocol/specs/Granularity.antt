-- How far a step goes (`SteppingGranularity`): the schema has three names, and takes no other text.
use Rattle.std.specs.Prelude.{◌≡◌, ℕ, List, Option, Some, None, bytes_eq, codes, refl, if◌then◌else◌}
use Rattle.serde_json.specs.Data.{Data, string}
use Rattle.serde_json.specs.Find.{as_str}
use Rattle.protocol.specs.Properties.{◌>>=◌}
use Rattle.protocol.specs.declared.granularity.Granularity.{Granularity}
use Rattle.protocol.specs.declared.granularity.Granularity.TheVariants.{Statement, Line, Instruction}

-- the granularity of that name
abbrev pub granularity_named : List ℕ → Option Granularity
granularity_named name =
    if bytes_eq name (codes "statement") then Some Statement
    else if bytes_eq name (codes "line") then Some Line
    else if bytes_eq name (codes "instruction") then Some Instruction
    else None

-- a granularity is a text
abbrev pub granularity_of : Data → Option Granularity
granularity_of value = as_str value >>= granularity_named

by_instructions : granularity_of (string (codes "instruction")) ≡ Some Instruction
by_instructions = refl

by_nothing_else : granularity_of (string (codes "Line")) ≡ None
by_nothing_else = refl
