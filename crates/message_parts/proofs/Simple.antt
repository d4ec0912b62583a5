-- Plainness of values that are written out: a test, so that it computes.
use Rattle.message_parts.proofs.Common.{and_parts, are_ascii, array, Bool, boolean, Data, false, float, IsUtf8-are_ascii, item, Items, ltb-true, member, Members, nat_lt, negative, no_items, no_members, null, Num, number, object, string, true, unsigned, ◌&&◌, ◌^◌, ◌≡◌}
use Rattle.message_parts.proofs.Texts.{IsPlain, AreItemsPlain, AreMembersPlain}

abbrev is_small_number : Num → Bool
is_small_number (unsigned n) = nat_lt n (2 ^ 64)
is_small_number (negative z) = false
is_small_number (float x) = false

-- plain, with ASCII texts: a test, so that it computes
abbrev mutual
  pub is_simple : Data → Bool
  is_simple null = true
  is_simple (boolean b) = true
  is_simple (number n) = is_small_number n
  is_simple (string s) = are_ascii s
  is_simple (array ds) = are_items_simple ds
  is_simple (object ms) = are_members_simple ms

  are_items_simple : Items → Bool
  are_items_simple no_items = true
  are_items_simple (item d ds) = is_simple d && are_items_simple ds

  are_members_simple : Members → Bool
  are_members_simple no_members = true
  are_members_simple (member k d ms) = are_ascii k && (is_simple d && are_members_simple ms)

mutual
  pub IsPlain-is_simple : (d : Data) → is_simple d ≡ true → IsPlain d
  IsPlain-is_simple null h = tt
  IsPlain-is_simple (boolean b) h = tt
  IsPlain-is_simple (number (unsigned n)) h = ltb-true _ _ h
  IsPlain-is_simple (number (negative z)) h = absurd cc
  IsPlain-is_simple (number (float x)) h = absurd cc
  IsPlain-is_simple (string s) h = IsUtf8-are_ascii s h
  IsPlain-is_simple (array ds) h = AreItemsPlain-simple ds h
  IsPlain-is_simple (object ms) h = AreMembersPlain-simple ms h

  AreItemsPlain-simple : (ds : Items) → are_items_simple ds ≡ true → AreItemsPlain ds
  AreItemsPlain-simple no_items h = tt
  AreItemsPlain-simple (item d ds) h = let p = and_parts _ _ h in (IsPlain-is_simple d p.0, AreItemsPlain-simple ds p.1)

  AreMembersPlain-simple : (ms : Members) → are_members_simple ms ≡ true → AreMembersPlain ms
  AreMembersPlain-simple no_members h = tt
  AreMembersPlain-simple (member k d ms) h =
      let p = and_parts _ _ h in
      let q = and_parts _ _ p.1 in
      (IsUtf8-are_ascii k p.0, IsPlain-is_simple d q.0, AreMembersPlain-simple ms q.1)
