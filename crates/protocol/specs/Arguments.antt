-- The arguments of requests.
--
-- An argument is a property of the request's `arguments`, and has the type that the protocol's schema gives it. One
-- that the schema does not require may be absent. Where one that is required is absent, or any that is looked at has
-- another type, the arguments are bad. Where there are no arguments at all, all are absent.
use Rattle.std.specs.Prelude.{◌≡◌, ℕ, List, [], ◌∷◌, Option, Some, None, Result, Ok, Err, option_map, IsSome, refl}
use Rattle.base64.specs.Engines.{standard}
use Rattle.base64.specs.GeneralPurpose.{decoded_of}
use Rattle.serde_json.specs.Data.{Data, Items, no_items, item, Members, no_members, number, unsigned}
use Rattle.serde_json.specs.Find.{as_array, as_bool, as_object, as_str}
use Rattle.protocol.specs.Properties.{◌>>=◌, integer}
use Rattle.protocol.specs.declared.unread.Unread.{Unread}
use Rattle.protocol.specs.declared.unread.Unread.TheVariants.{Bad}

-- the members of the arguments: absent ones are as an empty object; None where they are no object
abbrev pub arguments_members : Option Data → Option Members
arguments_members None = Some no_members
arguments_members (Some value) = as_object value

-- an argument that has to be there, by what its type makes of a value
abbrev pub required : {A : Type 0} → (Data → Option A) → Option Data → Option A
required meaning value = value >>= meaning

-- an argument that may be absent; None where it is there, and has another type
abbrev pub optional : {A : Type 0} → (Data → Option A) → Option Data → Option (Option A)
optional meaning None = Some None
optional meaning (Some value) = option_map (λ a. Some a) (meaning value)

no_integer_is_fine : optional integer None ≡ Some None
no_integer_is_fine = refl

no_integer_is_bad : required integer None ≡ None
no_integer_is_bad = refl

a_number_is_not_true : optional as_bool (Some (number (unsigned 1))) ≡ None
a_number_is_not_true = refl

-- the bytes that a text spells in base64, with padding and no spare bits (RFC 4648, section 4)
abbrev pub base64 : Data → Option (List ℕ)
base64 value = as_str value >>= decoded_of standard

-- the entries of a list; each has to mean something
abbrev pub each : {A : Type 0} → (Data → Option A) → Items → Option (List A)
each meaning no_items = Some []
each meaning (item value rest) = do
  first ← meaning value
  others ← each meaning rest
  Some (first ∷ others)

-- a list of such entries
abbrev pub list : {A : Type 0} → (Data → Option A) → Data → Option (List A)
list meaning value = as_array value >>= each meaning

-- For private clauses alone: the values for which memory may run out in reading a text, a list or an
-- object
abbrev pub IsText : Data → Type 0
IsText value = IsSome (as_str value)

abbrev pub IsList : Data → Type 0
IsList value = IsSome (as_array value)

abbrev pub IsObject : Data → Type 0
IsObject value = IsSome (as_object value)

-- For private clauses alone: memory may run out in reading an argument that is there, where its
-- type says so of the value
abbrev pub MayTakeMemory : (Data → Type 0) → Option Data → Type 0
MayTakeMemory TakesMemory None = ⊥
MayTakeMemory TakesMemory (Some value) = TakesMemory value

-- For private clauses alone: what was read is what is meant, and where arguments are bad nothing is.
abbrev pub Reads : {A : Type 0} → Result A Unread → Option A → Type 0
Reads (Ok a) meant = meant ≡ Some a
Reads (Err why) meant = why ≡ Bad → meant ≡ None
