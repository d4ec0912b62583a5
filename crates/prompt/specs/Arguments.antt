-- Texts, numbers and places.
use Rattle.std.specs.Prelude.{◌≡◌, ℕ, ◌==◌, ◌&&◌, nat_le, if◌then◌else◌, List, [], ◌∷◌, length, Option, Some, None, Result, Ok, Err, codes, refl}
use Rattle.std.specs.Str.{is_utf8}
use Rattle.numerals.specs.Numerals.{numeral}
use Rattle.numerals.specs.declared.NumeralError.{NumeralError}
use Rattle.prompt.specs.Parts.{Placed, after_first, bare, end, first_word, suffix, whole}
use Rattle.prompt.specs.declared.error.Argument.{Argument}
use Rattle.prompt.specs.declared.error.Argument.TheVariants as a
use Rattle.prompt.specs.declared.error.LineError.{LineError}
use Rattle.prompt.specs.declared.error.LineFault.{LineFault}
use Rattle.prompt.specs.declared.error.LineFault.TheVariants.{Missing, NotANumber, NotUtf8, Unexpected}
use Rattle.prompt.specs.declared.place.Place.{Place}
use Rattle.prompt.specs.declared.place.Place.TheVariants.{Line, Label, Address}

-- what is wrong begins where a part does; what is missing belongs after it
abbrev pub wrong : LineFault → Placed → LineError
wrong fault p = record { fault = fault; column = p.column }

abbrev pub missing : Argument → Placed → LineError
missing argument p = record { fault = Missing argument; column = end p }

-- what is made of a value, unless something is wrong
abbrev pub and_then : {A B : Type 0} → Result A LineError → (A → Result B LineError) → Result B LineError
and_then (Ok a) next = next a
and_then (Err error) next = Err error

-- bytes, if they are UTF-8
abbrev pub utf8_in : List ℕ → Option (List ℕ)
utf8_in bytes = if is_utf8 bytes then Some bytes else None

-- the text that a part is
abbrev pub text_if_utf8 : Placed → Option (List ℕ) → Result Placed LineError
text_if_utf8 p (Some text) = Ok (record { text = text; column = p.column })
text_if_utf8 p None = Err (wrong NotUtf8 p)

abbrev pub text_in : Argument → Placed → Result Placed LineError
text_in argument p = if length p.text == 0 then Err (missing argument p) else text_if_utf8 p (utf8_in p.text)

-- the number that a part is
abbrev pub digits_in : Placed → Result ℕ NumeralError → Result ℕ LineError
digits_in p (Ok n) = Ok n
digits_in p (Err error) = Err (wrong NotANumber p)

abbrev pub number_in : Placed → Result ℕ LineError
number_in p = if length p.text == 0 then Err (missing a.Number p) else digits_in p (numeral 10 p.text)

-- ---- places

abbrev pub line_in : Placed → Result Place LineError
line_in p = and_then (number_in p) (λ n. Ok (Line n))

abbrev pub address_in : Placed → Result Place LineError
address_in p = and_then (text_in a.Expression p) (λ text. Ok (Address text))

-- a label is one word
abbrev pub label_in : Placed → Result Place LineError
label_in p =
    if length (after_first p).text == 0 then and_then (text_in a.Place (first_word p)) (λ text. Ok (Label text))
    else Err (wrong Unexpected (after_first p))

-- a place by its first byte: `*` stands before an expression, a digit begins the number of a line
abbrev pub place_by : Placed → List ℕ → Result Place LineError
place_by p [] = label_in p
place_by p (b ∷ text) =
    if b == 42 then address_in (bare (suffix 1 p))
    else if nat_le 48 b && nat_le b 57 then line_in p
    else label_in p

-- the place that a part is
abbrev pub place_in : Placed → Result Place LineError
place_in p = place_by p p.text

-- ---- examples

a_line : place_in (whole (codes "12")) ≡ Ok (Line 12)
a_line = refl

no_line : place_in (whole (codes "12a")) ≡ Err (record { fault = NotANumber; column = 1 })
no_line = refl

two_labels : place_in (whole (codes "loop end")) ≡ Err (record { fault = Unexpected; column = 6 })
two_labels = refl

nowhere : place_in (whole (codes "*")) ≡ Err (record { fault = Missing a.Expression; column = 2 })
nowhere = refl
