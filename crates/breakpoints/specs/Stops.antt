-- Which breakpoints are hit, and which stop (Debug Adapter Protocol, `SourceBreakpoint`, `InstructionBreakpoint`:
-- `condition`, `hitCondition`).
--
-- There are three lists: breakpoints of source lines, of instructions, and of functions. After an instruction has
-- retired, each breakpoint at the new pc is looked at. It is hit where it has no condition, or its condition is not 0
-- or has no value: then its count goes up by one, and stays at 4,294,967,295. Where it is hit and its count, this hit
-- among it, has reached the number that it was set with, it stops; but a logpoint (`logMessage`) never stops, and says
-- its text there. A logpoint is a breakpoint of the source list: only there is a text looked for.
--
-- Where a program goes back, a breakpoint at the new pc *stands* there where it is no logpoint and a check would count a
-- hit, however often it was hit. Then no hit counts, and nothing is said.
use Rattle.std.specs.Prelude.{ℕ, ◌+◌, ◌≤◌, Bool, true, ◌==◌, nat_le, ◌&&◌, not, if◌then◌else◌, min, List, [], ◌∷◌, ◌++◌, length}
use Rattle.std.specs.Prelude.{map, filter, All, Option, Some, None, Ok, Err, option_map, is_some, slice_get}
use Rattle.std.specs.List.{list_any}
use Rattle.rv32i.specs.declared.hart.Hart.{Hart}
use Rattle.breakpoints.specs.Nodes.{tree_of}
use Rattle.breakpoints.specs.Trees.{Tree}
use Rattle.breakpoints.specs.Values.{Valued, is_true, value_of}
use Rattle.breakpoints.specs.declared.breakpoint.BreakSpec.{BreakSpec}
use Rattle.breakpoints.specs.declared.breakpoint.Hit.{Hit}

-- a breakpoint to be set: its number and address, the condition under which it is hit, from which hit on it stops, and
-- the text of a logpoint
pub record Wanted : Type 0 where
  pub id : ℕ
  pub address : ℕ
  pub condition : Option Tree
  pub hit : ℕ
  pub log : Option (List ℕ)

-- the code's, whose condition keeps where its parts lie
abbrev pub wanted_by : BreakSpec → Wanted
wanted_by spec = record {
  id = spec.id;
  address = spec.address;
  condition = option_map tree_of spec.condition;
  hit = spec.hit;
  log = spec.log;
}

-- one that is set, and how often it was hit
pub record Placed : Type 0 where
  pub id : ℕ
  pub address : ℕ
  pub condition : Option Tree
  pub hit : ℕ
  pub log : Option (List ℕ)
  pub hits : ℕ

-- the three lists; the ids of those that stopped at the last check, or stood at the last look, the source list's first
-- and those of functions last; and the places in the source list of the logpoints that had something to say at a check
pub record Lists : Type 0 where
  pub source : List Placed
  pub instructions : List Placed
  pub functions : List Placed
  pub ids : List ℕ
  pub logs : List ℕ

-- a breakpoint as it is set: it was not hit yet
abbrev pub fresh : Wanted → Placed
fresh wanted = record {
  id = wanted.id;
  address = wanted.address;
  condition = wanted.condition;
  hit = wanted.hit;
  log = wanted.log;
  hits = 0;
}

abbrev pub is_no_zero : Valued → Bool
is_no_zero (Ok v) = is_true v
is_no_zero (Err fault) = true

-- a condition is absent, not 0, or has no value
abbrev pub holds : Option Tree → Hart → List ℕ → Bool
holds None hart memory = true
holds (Some condition) hart memory = is_no_zero (value_of condition hart memory)

-- a breakpoint is hit
abbrev pub is_hit : ℕ → Hart → List ℕ → Placed → Bool
is_hit pc hart memory b = (b.address == pc) && holds b.condition hart memory

-- it with this check counted
abbrev pub with_hit : Placed → Placed
with_hit b = record b { hits = min (b.hits + 1) 4294967295 }

abbrev pub counted : ℕ → Hart → List ℕ → Placed → Placed
counted pc hart memory b = if is_hit pc hart memory b then with_hit b else b

-- it is hit, and its count, this hit among it, has reached its number
abbrev pub is_reached : ℕ → Hart → List ℕ → Placed → Bool
is_reached pc hart memory b = is_hit pc hart memory b && nat_le b.hit (with_hit b).hits

-- it stops; a logpoint never does
abbrev pub stops : ℕ → Hart → List ℕ → Placed → Bool
stops pc hart memory b = is_reached pc hart memory b && not (is_some b.log)

-- a logpoint says its text, where another would stop
abbrev pub logs : ℕ → Hart → List ℕ → Placed → Bool
logs pc hart memory b = is_reached pc hart memory b && is_some b.log

-- it stands here, however often it was hit; a logpoint never does
abbrev pub stands : ℕ → Hart → List ℕ → Placed → Bool
stands pc hart memory b = is_hit pc hart memory b && not (is_some b.log)

-- the ids of those that pass the test, in order
abbrev pub ids_where : (Placed → Bool) → List Placed → List ℕ
ids_where test list = map (λ b. b.id) (filter test list)

-- the ids of those that stop
abbrev pub stopping_ids : ℕ → Hart → List ℕ → List Placed → List ℕ
stopping_ids pc hart memory list = ids_where (stops pc hart memory) list

-- the places of the logpoints that say their text, counted on from this one
abbrev pub logging_from : ℕ → Hart → List ℕ → ℕ → List Placed → List ℕ
logging_from pc hart memory place [] = []
logging_from pc hart memory place (b ∷ list) =
    (if logs pc hart memory b then place ∷ [] else []) ++ logging_from pc hart memory (place + 1) list

-- the lists after a check, and what it answers
abbrev pub checked : ℕ → Hart → List ℕ → Lists → Lists
checked pc hart memory lists = record {
  source = map (counted pc hart memory) lists.source;
  instructions = map (counted pc hart memory) lists.instructions;
  functions = map (counted pc hart memory) lists.functions;
  ids = stopping_ids pc hart memory lists.source
      ++ stopping_ids pc hart memory lists.instructions
      ++ stopping_ids pc hart memory lists.functions;
  logs = logging_from pc hart memory 0 lists.source;
}

-- the kinds of those that pass the test
abbrev pub hit_where : (Placed → Bool) → Lists → Hit
hit_where test lists = record {
  source = list_any test lists.source;
  instruction = list_any test lists.instructions;
  function = list_any test lists.functions;
}

abbrev pub hit_in : ℕ → Hart → List ℕ → Lists → Hit
hit_in pc hart memory lists = hit_where (stops pc hart memory) lists

-- the lists after a look, at which no hit counts and nothing is said, and what it answers
abbrev pub looked : ℕ → Hart → List ℕ → Lists → Lists
looked pc hart memory lists = record lists {
  ids = ids_where (stands pc hart memory) lists.source
      ++ ids_where (stands pc hart memory) lists.instructions
      ++ ids_where (stands pc hart memory) lists.functions;
  logs = [];
}

abbrev pub standing_in : ℕ → Hart → List ℕ → Lists → Hit
standing_in pc hart memory lists = hit_where (stands pc hart memory) lists

-- the text of the logpoint at a place of the source list, if there is one
abbrev pub log_of : Option Placed → Option (List ℕ)
log_of None = None
log_of (Some b) = b.log

abbrev pub log_at : Lists → ℕ → Option (List ℕ)
log_at lists place = log_of (slice_get lists.source place)

-- a list that can be set: at most 1,024 breakpoints, each to stop at its first hit or a later one
pub record CanBeSet (specs : List BreakSpec) : Type 0 where
  pub few : length specs ≤ 1024
  pub reachable : All (λ spec. 1 ≤ spec.hit) specs

-- each count as at first
abbrev pub reset : Placed → Placed
reset b = record b { hits = 0 }
