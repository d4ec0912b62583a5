-- For clauses of functions that write parts of a message, here and in `replies`: how these are written.
--
-- A JSON text is written one token after another (RFC 8259, section 2): a bracket, the name of a member, or a value
-- that is neither an array nor an object. The library `json` puts the commas and the colons and escapes the texts, so
-- what is written for the tokens of a value is the value's compact text.
use Rattle.std.specs.Prelude.{◌≡◌, ◌^◌, ◌<◌, pos, negsuc, List, [], ◌∷◌, ◌++◌, codes, decimal, refl}
use Rattle.json.specs.Token.{Token, begin_object, end_object, begin_array, end_array, key, string as text}
use Rattle.json.specs.Token.{number as digits}
use Rattle.json.specs.Tree.{json_tokens}
use Rattle.json.specs.Written.{Written}
use Rattle.serde_json.specs.Data.{Num, unsigned, negative, float, Data, null, boolean, number, string, array, object}
use Rattle.serde_json.specs.Data.{Items, no_items, item, Members, no_members, member}
use Rattle.serde_json.specs.Written.{outline}
use Rattle.message_parts.specs.Threads.{threads_body}

-- what a writer has written since is these tokens
pub record Appends (old new : Written) (added : List Token) : Type 0 where
  pub before : new.before ≡ old.before
  pub tokens : new.tokens ≡ old.tokens ++ added

-- the tokens of a value
abbrev pub tokens_of : Data → List Token
tokens_of value = json_tokens (outline value)

-- the tokens of members, without the end of their object
abbrev pub members_tokens : Members → List Token
members_tokens no_members = []
members_tokens (member name value rest) = key name ∷ (tokens_of value ++ members_tokens rest)

-- the tokens of items, without the end of their array
abbrev pub items_tokens : Items → List Token
items_tokens no_items = []
items_tokens (item value rest) = tokens_of value ++ items_tokens rest

-- ---- numbers that 64 bits hold, as all have that a program writes

abbrev pub IsSmallNumber : Num → Type 0
IsSmallNumber (unsigned n) = n < 2 ^ 64
IsSmallNumber (negative (pos n)) = ⊥
IsSmallNumber (negative (negsuc n)) = n < 2 ^ 63
IsSmallNumber (float x) = ⊥

abbrev mutual
  pub HasSmallNumbers : Data → Type 0
  HasSmallNumbers null = Unit {0}
  HasSmallNumbers (boolean b) = Unit {0}
  HasSmallNumbers (number n) = IsSmallNumber n
  HasSmallNumbers (string s) = Unit {0}
  HasSmallNumbers (array ds) = ItemsHaveSmallNumbers ds
  HasSmallNumbers (object ms) = MembersHaveSmallNumbers ms

  pub ItemsHaveSmallNumbers : Items → Type 0
  ItemsHaveSmallNumbers no_items = Unit {0}
  ItemsHaveSmallNumbers (item d ds) = HasSmallNumbers d × ItemsHaveSmallNumbers ds

  pub MembersHaveSmallNumbers : Members → Type 0
  MembersHaveSmallNumbers no_members = Unit {0}
  MembersHaveSmallNumbers (member k d ms) = HasSmallNumbers d × MembersHaveSmallNumbers ms

-- ---- what was written

-- a value
pub record IsWritten (old new : Written) (value : Data) : Type 0 where
  pub appends : Appends old new (tokens_of value)
  pub small : HasSmallNumbers value

-- members of an object
pub record AreWritten (old new : Written) (members : Members) : Type 0 where
  pub appends : Appends old new (members_tokens members)
  pub small : MembersHaveSmallNumbers members

-- items of an array
pub record ItemsWritten (old new : Written) (items : Items) : Type 0 where
  pub appends : Appends old new (items_tokens items)
  pub small : ItemsHaveSmallNumbers items

-- ---- an example

-- the body that answers `threads`
example-threads : tokens_of threads_body
    ≡ begin_object
    ∷ key (codes "threads") ∷ begin_array
    ∷ begin_object
    ∷ key (codes "id") ∷ digits (decimal 1)
    ∷ key (codes "name") ∷ text (codes "hart 0")
    ∷ end_object
    ∷ end_array
    ∷ end_object ∷ []
example-threads = refl
