-- A kind of variables (`VariablesArguments.filter`): the schema has two names, and takes no other text.
use Rattle.std.specs.Prelude.{◌≡◌, ℕ, List, Option, Some, None, bytes_eq, codes, refl, if◌then◌else◌}
use Rattle.serde_json.specs.Data.{Data, string}
use Rattle.serde_json.specs.Find.{as_str}
use Rattle.protocol.specs.Properties.{◌>>=◌}
use Rattle.protocol.specs.declared.filter.Filter.{Filter}
use Rattle.protocol.specs.declared.filter.Filter.TheVariants.{Indexed, Named}

-- the kind of that name
abbrev pub filter_named : List ℕ → Option Filter
filter_named name =
    if bytes_eq name (codes "indexed") then Some Indexed
    else if bytes_eq name (codes "named") then Some Named
    else None

-- a kind is a text
abbrev pub filter_of : Data → Option Filter
filter_of value = as_str value >>= filter_named

the_named_ones : filter_of (string (codes "named")) ≡ Some Named
the_named_ones = refl
