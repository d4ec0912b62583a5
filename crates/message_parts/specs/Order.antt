-- The order of the members of objects.
--
-- The members of each object of a message stand in byte order of their names, each name once, as a JSON object should
-- have it (RFC 8259, section 4).
use Rattle.std.specs.Prelude.{ℕ, List, Bool, true, ◌&&◌}
use Rattle.std.specs.Cmp.Lexicographic.{slice_cmp}
use Rattle.std.specs.Ordering.{nat_cmp, is_lt}
use Rattle.serde_json.specs.Data.{Data, null, boolean, number, string, array, object, Items, no_items, item, Members}
use Rattle.serde_json.specs.Data.{no_members, member}

-- the first name, if there is one, is above this one
abbrev pub begins_above : List ℕ → Members → Bool
begins_above name no_members = true
begins_above name (member next value rest) = is_lt (slice_cmp nat_cmp name next)

abbrev mutual
  -- the names of each object rise
  pub is_ordered : Data → Bool
  is_ordered null = true
  is_ordered (boolean b) = true
  is_ordered (number n) = true
  is_ordered (string s) = true
  is_ordered (array values) = are_items_ordered values
  is_ordered (object named) = are_members_ordered named

  pub are_items_ordered : Items → Bool
  are_items_ordered no_items = true
  are_items_ordered (item value values) = is_ordered value && are_items_ordered values

  pub are_members_ordered : Members → Bool
  are_members_ordered no_members = true
  are_members_ordered (member name value rest) =
      begins_above name rest && (is_ordered value && are_members_ordered rest)
