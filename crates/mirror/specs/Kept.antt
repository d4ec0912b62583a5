-- What is kept of the facts: lists and maps, each with what it tells.
use Rattle.std.specs.Prelude.{◌≡◌, ℕ, ◌^◌, ◌≤◌, List, [], Option, Some, None, bytes_eq, slice_get, find}
use Rattle.std.specs.Ordering.{nat_cmp}
use Rattle.std.specs.BTreeMap.{is_at}
use Rattle.std.specs.Map.{lookup}
use Rattle.framing.specs.Reading.{Tail}
use Rattle.facts.specs.Facts.{Facts}
use Rattle.mirror.specs.declared.asked.Asked.{Asked}
use Rattle.facts.specs.declared.breakpoint.BreakInfo.{BreakInfo}
use Rattle.mirror.specs.declared.error.MirrorError.{MirrorError}
use Rattle.mirror.specs.declared.known.Known.{Known}
use Rattle.mirror.specs.declared.sources.Listed.{Listed}

-- what the entries of a map have at a number
abbrev pub at : {A : Type 0} → List (ℕ × A) → ℕ → Option A
at entries number = lookup (is_at (nat_cmp number)) entries

-- the breakpoints of a list, if there is one
abbrev pub breaks_of : Option Listed → List BreakInfo
breaks_of None = []
breaks_of (Some list) = list.breaks

-- the breakpoints of a path
abbrev pub source_in : List Listed → List ℕ → List BreakInfo
source_in lists path = breaks_of (find (λ list. bytes_eq list.path path) lists)

-- the value in a place, if there is one
abbrev pub flat : Option (Option ℕ) → Option ℕ
flat None = None
flat (Some value) = value

-- the value of a register
abbrev pub register_in : List (Option ℕ) → ℕ → Option ℕ
register_in values number = flat (slice_get values number)

-- the facts that are kept
abbrev pub facts_of : Known → Facts
facts_of known = record {
  run = known.run;
  launched = known.launched;
  source = source_in known.sources;
  instructions = known.instructions;
  functions = known.functions;
  frame = at known.frames;
  register = register_in known.registers;
  byte = at known.bytes;
}

-- the stream continues from a tail, or it has a fault
pub data Link : Type 0 where
  Open : Tail → Link
  Closed : MirrorError → Link

-- what a mirror keeps
pub record Kept : Type 0 where
  pub known : Known
  pub asked : List (ℕ × Asked)
  pub link : Link

-- for private clauses: the next place to tell of; past the last there is none
abbrev pub PlaceIs : Option ℕ → ℕ → Type 0
PlaceIs None n = 2 ^ 32 ≤ n
PlaceIs (Some place) n = place ≡ n
