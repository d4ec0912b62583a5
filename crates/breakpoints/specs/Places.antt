-- Where breakpoints are, by their addresses: cited by private clauses alone, but for `is_at` and `is_among`.
--
-- Most addresses have no breakpoint, and that is answered quickly: a mark, found by the low bits of an address, says
-- that one may be there, and only then the sorted addresses are searched.
use Rattle.std.specs.Prelude.{◌≡◌, ℕ, ◌+◌, ◌/◌, ◌%◌, ◌≤◌, Bool, true, false, ◌==◌, ◌||◌, List, length, slice_index_or}
use Rattle.std.specs.Prelude.{All}
use Rattle.std.specs.List.{list_any}
use Rattle.std.specs.List.Sorted.{IsNonDecreasing}
use Rattle.breakpoints.specs.Stops.{Placed}

abbrev pub has_place : ℕ → List ℕ → Bool
has_place address places = list_any (λ place. place == address) places

-- the same addresses, perhaps in another order
abbrev pub SamePlaces : List ℕ → List ℕ → Type 0
SamePlaces before after = (address : ℕ) → has_place address after ≡ has_place address before

-- each of these addresses has its mark
abbrev pub AllMarked : List Bool → List ℕ → Type 0
AllMarked marks addresses = All (λ address. slice_index_or marks (address / 4 % 65536) false ≡ true) addresses

pub record IsIndexed (marks : List Bool) (addresses : List ℕ) : Type 0 where
  pub marked : AllMarked marks addresses
  pub rise : IsNonDecreasing addresses

-- whether a breakpoint is at an address
abbrev pub is_at : ℕ → Placed → Bool
is_at address b = b.address == address

-- whether one of the three lists has a breakpoint at an address
abbrev pub is_among : ℕ → List Placed → List Placed → List Placed → Bool
is_among address source instructions functions =
    list_any (is_at address) source || list_any (is_at address) instructions || list_any (is_at address) functions

-- the addresses are those of the breakpoints of all lists
abbrev pub Covers : List ℕ → List Placed → List Placed → List Placed → Type 0
Covers places source instructions functions =
    (address : ℕ) → has_place address places ≡ is_among address source instructions functions

-- And there is room for the ids of all, and for the places of those of the source list.
pub record IsKept (places : List ℕ) (source instructions functions : List Placed) (room logging : ℕ) : Type 0 where
  pub covers : Covers places source instructions functions
  pub fits : length source + length instructions + length functions ≤ room
  pub logs_fit : length source ≤ logging
  pub few : length source ≤ 1024
