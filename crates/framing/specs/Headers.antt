-- The header part of a frame (Debug Adapter Protocol, base protocol, "Header Part").
--
-- A frame is a header part and a content part. The header part is made of fields, each a name and a value on a
-- line of its own, and it ends at its first empty line: at the first CR LF CR LF. A name is one or more visible
-- ASCII characters, none a colon. A value is ASCII characters from the space on, and tabs; the blanks round it
-- do not count. The field `Content-Length`, in letters of either case, says in 1 to 10 decimal digits how many
-- bytes the content part has. It stands once, and is at most a limit that the reader sets. Other fields are
-- allowed, and ignored. A header part has at most 4,096 bytes.
use Rattle.std.specs.Prelude.{◌≡◌, ℕ, suc, ◌<◌, ◌≤◌, Bool, true, false, ◌==◌, nat_le, if◌then◌else◌, ◌&&◌, ◌||◌, not}
use Rattle.std.specs.Prelude.{List, [], ◌∷◌, ◌++◌, length, filter, Option, Some, None, codes, refl}
use Rattle.std.specs.List.{list_all, flat_map}
use Rattle.std.specs.Option.{option_map}
use Rattle.std.specs.Char.{is_ascii_digit}
use Rattle.std.specs.Str.{str_eq_ignore_ascii_case}
use Rattle.std.specs.Str.Parse.{digits_value}
use Rattle.byte_strings.specs.Blanks.{is_blank}

-- the end of a line: CR LF
abbrev pub end_of_line : List ℕ
end_of_line = 13 ∷ 10 ∷ []

-- a field: its name, and its value with the blanks round it
pub record Field : Type 0 where
  pub name : List ℕ
  pub value : List ℕ

-- a field's line: the name, a colon (58), the value, the end of the line
abbrev pub line_of : Field → List ℕ
line_of f = f.name ++ 58 ∷ f.value ++ end_of_line

-- a header part: the lines of its fields, and an empty line
abbrev pub header_of : List Field → List ℕ
header_of fields = flat_map line_of fields ++ end_of_line

line_of_field : line_of (record { name = codes "A"; value = codes " b" }) ≡ codes "A: b" ++ end_of_line
line_of_field = refl

-- a visible ASCII character that is no colon
abbrev pub is_name_byte : ℕ → Bool
is_name_byte b = nat_le 33 b && nat_le b 126 && not (b == 58)

-- an ASCII character from the space on, or a tab
abbrev pub is_value_byte : ℕ → Bool
is_value_byte b = (nat_le 32 b && nat_le b 126) || (b == 9)

-- what can be a field's name
abbrev pub is_name : List ℕ → Bool
is_name name = not (length name == 0) && list_all is_name_byte name

-- what can be a field's value
abbrev pub is_value : List ℕ → Bool
is_value value = list_all is_value_byte value

-- a field as a header part has it
abbrev pub is_field : Field → Bool
is_field f = is_name f.name && is_value f.value

-- whether a name is `Content-Length`, in letters of either case
abbrev pub names_length : List ℕ → Bool
names_length name = str_eq_ignore_ascii_case name (codes "Content-Length")

-- the fields that say how long the content part is
abbrev pub length_fields : List Field → List Field
length_fields fields = filter (λ f. names_length f.name) fields

-- A value says a length: it is 1 to 10 digits, blanks before and after them, and the length is their value.
pub record SaysLength (value : List ℕ) (n : ℕ) : Type 0 where
  pub before : List ℕ
  pub digits : List ℕ
  pub after : List ℕ
  pub spelled : value ≡ before ++ digits ++ after
  pub blank_before : list_all is_blank before ≡ true
  pub blank_after : list_all is_blank after ≡ true
  pub all_digits : list_all is_ascii_digit digits ≡ true
  pub some : 0 < length digits
  pub few : length digits ≤ 10
  pub number : n ≡ digits_value 10 digits

-- h is a header part that says a length n, within the limit.
pub record Head (limit : ℕ) (h : List ℕ) (n : ℕ) : Type 0 where
  pub fields : List Field
  pub field : Field
  pub spelled : h ≡ header_of fields
  pub each : list_all is_field fields ≡ true
  pub short : length h ≤ 4096
  pub once : length_fields fields ≡ field ∷ []
  pub says : SaysLength field.value n
  pub within : n ≤ limit

-- whether a stream begins with CR LF CR LF
abbrev pub begins_with_end : List ℕ → Bool
begins_with_end (a ∷ b ∷ c ∷ d ∷ bytes) = (a == 13) && (b == 10) && (c == 13) && (d == 10)
begins_with_end bytes = false

-- how many bytes a stream has up to and with its first CR LF CR LF, if it has one
abbrev pub end_of : List ℕ → Option ℕ
end_of [] = None
end_of (b ∷ bytes) = if begins_with_end (b ∷ bytes) then Some 4 else option_map suc (end_of bytes)

end_of_short : end_of (codes "a" ++ 13 ∷ 10 ∷ 13 ∷ 10 ∷ codes "{}") ≡ Some 5
end_of_short = refl
