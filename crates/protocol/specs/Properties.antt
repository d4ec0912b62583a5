-- The properties of the protocol's objects.
--
-- The protocol's schema gives the objects of a message properties, some of them optional. A
-- property is the member of its name. A member that is null says as much as one that is absent:
-- both are no property. Members that the schema does not name are never looked at.
--
-- A property has the type that the schema gives it, or the message is not taken as it stands: 1 is
-- not true, and "true" is not true either. Where the schema says integer, a whole number from
-- -2,147,483,648 to 2,147,483,647 is taken, and no other. `1.0`, `1e2` and `-0` are floats.
use Rattle.std.specs.Prelude.{◌≡◌, ℕ, List, Option, Some, None, codes, option_and_then, nat_le, ℤ}
use Rattle.std.specs.Prelude.{pos, neg_ℤ, int_le, ◌&&◌, Float, refl, if◌then◌else◌}
use Rattle.serde_json.specs.Data.{Data, null, number, string, unsigned, negative, float, Members, no_members, member}
use Rattle.serde_json.specs.Find.{get_member, as_i64, as_number, as_str, as_u64}

-- what follows from a value, where there is one
infixl 10 ◌>>=◌
abbrev pub ◌>>=◌ : {A B : Type 0} → Option A → (A → Option B) → Option B
found >>= next = option_and_then next found

-- the value, unless it is null
abbrev pub non_null : Data → Option Data
non_null null = None
non_null value = Some value

-- the property of that name
abbrev pub property : List ℕ → Members → Option Data
property name members = get_member name members >>= non_null

null_is_no_property : property (codes "seq") (member (codes "seq") null no_members) ≡ None
null_is_no_property = refl

-- a text, which has to be there
abbrev pub text : Option Data → Option (List ℕ)
text value = value >>= as_str

-- the number, where it is at most the greatest of 32 bits with a sign
abbrev pub within_i32_max : ℕ → Option ℕ
within_i32_max n = if nat_le n 2147483647 then Some n else None

-- a whole number from 0 to 2,147,483,647
abbrev pub natural : Data → Option ℕ
natural value = as_number value >>= as_u64 >>= within_i32_max

the_greatest_natural : natural (number (unsigned 2147483647)) ≡ Some 2147483647
the_greatest_natural = refl

no_greater_natural : natural (number (unsigned 2147483648)) ≡ None
no_greater_natural = refl

a_number_below_0_is_no_natural : natural (number (negative (neg_ℤ (pos 1)))) ≡ None
a_number_below_0_is_no_natural = refl

a_text_is_no_natural : natural (string (codes "1")) ≡ None
a_text_is_no_natural = refl

-- a message's number, which has to be there (`ProtocolMessage.seq`)
abbrev pub sequence_number : Option Data → Option ℕ
sequence_number value = value >>= natural

-- the whole number, where 32 bits hold it: -2,147,483,648 is the least, 2,147,483,647 the greatest
abbrev pub within_i32 : ℤ → Option ℤ
within_i32 z =
    if int_le (neg_ℤ (pos 2147483648)) z && int_le z (pos 2147483647) then Some z else None

-- a whole number from -2,147,483,648 to 2,147,483,647
abbrev pub integer : Data → Option ℤ
integer value = as_number value >>= as_i64 >>= within_i32

the_greatest_integer : integer (number (unsigned 2147483647)) ≡ Some (pos 2147483647)
the_greatest_integer = refl

no_greater_integer : integer (number (unsigned 2147483648)) ≡ None
no_greater_integer = refl

the_least_integer : integer (number (negative (neg_ℤ (pos 2147483648)))) ≡ Some (neg_ℤ (pos 2147483648))
the_least_integer = refl

no_lesser_integer : integer (number (negative (neg_ℤ (pos 2147483649)))) ≡ None
no_lesser_integer = refl

no_integer_of_64_bits : integer (number (unsigned 18446744073709551615)) ≡ None
no_integer_of_64_bits = refl

a_float_is_no_integer : (x : Float) → integer (number (float x)) ≡ None
a_float_is_no_integer x = refl

a_text_is_no_integer : integer (string (codes "1")) ≡ None
a_text_is_no_integer = refl
