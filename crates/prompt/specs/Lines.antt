-- What a line asks for.
--
-- A line is a word and what belongs to it, with blanks round and between them:
--
--     break, tbreak         WHERE [if EXPR] [hit N]
--     log                   WHERE TEXT
--     print                 EXPR, or TARGET = VALUE
--     set                   TARGET = VALUE
--     change, back-to-change, display    EXPR
--     x, xb                 EXPR [N]
--     disassemble           [WHERE] [N]
--     list                  [WHERE]
--     registers             [NAME..]
--     help                  [WORD]
--     continue, step, next, finish, stepi, nexti, back, reverse-continue, delete, undisplay    [N]
--
-- and nothing belongs to the others. WHERE is the number of a line, `*` and an expression, or a label; that of `log` has
-- no blank. N is decimal digits. After an expression it counts as N where the expression before it ends as a value does:
-- `x sp 4` shows four words from `sp` on, `x sp + 4` those from four bytes above it.
--
-- An empty line asks for the last motion once more, and one that begins with `#` for nothing.
use Rattle.std.specs.Prelude.{◌≡◌, ℕ, ◌==◌, ◌&&◌, ◌||◌, Bool, true, false, if◌then◌else◌, List, [], ◌∷◌, length, reverse}
use Rattle.std.specs.Prelude.{Option, Some, None, Result, Ok, Err, codes, refl}
use Rattle.std.specs.Char.{is_ascii_alphabetic, is_ascii_digit}
use Rattle.std.specs.List.{list_all, list_any}
use Rattle.std.specs.Str.{chars, is_utf8}
use lib.Utf8.{encode}
use Rattle.prompt.specs.Arguments.{missing, number_in, place_in, text_in, and_then, utf8_in, wrong}
use Rattle.prompt.specs.Parts.{Placed, after_first, bare, before_last, first_word, last_word, whole}
use Rattle.prompt.specs.Separators.{parted}
use Rattle.prompt.specs.Words.{word_of}
use Rattle.prompt.specs.declared.error.Argument.{Argument}
use Rattle.prompt.specs.declared.error.Argument.TheVariants as a
use Rattle.prompt.specs.declared.error.LineError.{LineError}
use Rattle.prompt.specs.declared.error.LineFault.TheVariants as f
use Rattle.prompt.specs.declared.line.Line.{Line}
use Rattle.prompt.specs.declared.line.Line.TheVariants as l
use Rattle.prompt.specs.declared.place.Place.{Place}
use Rattle.prompt.specs.declared.place.Place.TheVariants as place
use Rattle.prompt.specs.declared.separator.Separator.TheVariants as s
use Rattle.prompt.specs.declared.words.Direction.{Direction}
use Rattle.prompt.specs.declared.words.Motion.{Motion}
use Rattle.prompt.specs.declared.words.Motion.TheVariants as m
use Rattle.prompt.specs.declared.words.Plain.{Plain}
use Rattle.prompt.specs.declared.words.Unit.{Unit}
use Rattle.prompt.specs.declared.words.Unit.TheVariants as u
use Rattle.prompt.specs.declared.words.Word.{Word}
use Rattle.prompt.specs.declared.words.Word.TheVariants as w

abbrev pub Read : Type 0
Read = Result Line LineError

-- ---- arguments that may be absent

abbrev pub if_any : {A : Type 0} → (Placed → Result A LineError) → Placed → Result (Option A) LineError
if_any reads p = if length p.text == 0 then Ok None else and_then (reads p) (λ a. Ok (Some a))

abbrev pub number_if : Placed → Result (Option ℕ) LineError
number_if p = if_any number_in p

abbrev pub text_if : Argument → Placed → Result (Option Placed) LineError
text_if argument p = if_any (text_in argument) p

abbrev pub place_if : Placed → Result (Option Place) LineError
place_if p = if_any place_in p

-- the same of a part that is there or not
abbrev pub in_part : {A : Type 0} → (Placed → Result A LineError) → Option Placed → Result (Option A) LineError
in_part reads None = Ok None
in_part reads (Some p) = and_then (reads p) (λ a. Ok (Some a))

abbrev pub condition_in : Option Placed → Result (Option Placed) LineError
condition_in part = in_part (text_in a.Expression) part

abbrev pub hits_in : Option Placed → Result (Option ℕ) LineError
hits_in part = in_part number_in part

-- ---- a number after an expression

-- a byte that a value ends with
abbrev pub is_value_end : ℕ → Bool
is_value_end b = is_ascii_alphabetic b || (is_ascii_digit b || list_any (λ c. b == c) (codes "_.$])'"))

-- whether a text ends as a value does
abbrev pub begins_value_end : List ℕ → Bool
begins_value_end [] = false
begins_value_end (b ∷ text) = is_value_end b

abbrev pub ends_as_value : List ℕ → Bool
ends_as_value text = begins_value_end (reverse text)

-- whether the last word is a number that counts
abbrev pub is_counted : Placed → Bool
is_counted p = list_all is_ascii_digit (last_word p).text && ends_as_value (before_last p).text

-- what comes before the number, and the number; all and nothing where there is none
abbrev pub counted : Placed → Placed × Option Placed
counted p = if is_counted p then (before_last p, Some (last_word p)) else (p, None)

-- ---- of each word

abbrev pub alone : Plain → Placed → Read
alone plain rest = if length rest.text == 0 then Ok (l.Plain plain) else Err (wrong f.Unexpected rest)

-- once, where no number is given
abbrev pub times : Option ℕ → ℕ
times None = 1
times (Some n) = n

abbrev pub moving : Motion → Placed → Read
moving motion rest = and_then (number_if rest) (λ n. Ok (l.Move motion (times n)))

abbrev pub helping : Placed → Read
helping rest = and_then (text_if a.Text rest) (λ word. Ok (l.Help word))

abbrev pub naming : Placed → Read
naming rest = and_then (text_if a.Text rest) (λ names. Ok (l.Registers names))

abbrev pub deleting : Placed → Read
deleting rest = and_then (number_if rest) (λ n. Ok (l.Delete n))

abbrev pub undisplaying : Placed → Read
undisplaying rest = and_then (number_if rest) (λ n. Ok (l.Undisplay n))

abbrev pub displaying : Placed → Read
displaying rest = and_then (text_in a.Expression rest) (λ e. Ok (l.Display e))

abbrev pub changing : Direction → Placed → Read
changing direction rest = and_then (text_in a.Expression rest) (λ e. Ok (l.Change direction e))

abbrev pub listing : Placed → Read
listing rest = and_then (place_if rest) (λ p. Ok (l.List p))

abbrev pub breaking_at : Bool → Placed → Option Placed → Option Placed → Read
breaking_at is_temporary place condition hits =
    and_then (place_in place) (λ p.
    and_then (condition_in condition) (λ c.
    and_then (hits_in hits) (λ h.
    Ok (l.Break (record { place = p; condition = c; hits = h; is_temporary = is_temporary })))))

abbrev pub breaking : Bool → Placed → Read
breaking is_temporary rest =
    let stop = parted s.Hit rest in
    let place = parted s.If stop.0 in
    breaking_at is_temporary place.0 place.1 stop.1

abbrev pub logging : Placed → Read
logging rest = and_then (place_in (first_word rest)) (λ p. and_then (text_in a.Text (after_first rest)) (λ text. Ok (l.Log p text)))

abbrev pub assigning : Placed → Placed → Read
assigning target value = and_then (text_in a.Expression target) (λ t. and_then (text_in a.Value value) (λ v. Ok (l.Set t v)))

abbrev pub printing_parts : Placed × Option Placed → Read
printing_parts (target, Some value) = assigning target value
printing_parts (text, None) = and_then (text_in a.Expression text) (λ e. Ok (l.Print e))

abbrev pub printing : Placed → Read
printing rest = printing_parts (parted s.Assignment rest)

abbrev pub setting_parts : Placed × Option Placed → Read
setting_parts (target, Some value) = assigning target value
setting_parts (text, None) = Err (missing a.Value text)

abbrev pub setting : Placed → Read
setting rest = setting_parts (parted s.Assignment rest)

abbrev pub examining : Unit → Placed → Read
examining unit rest =
    let parts = counted rest in
    and_then (text_in a.Expression parts.0) (λ e. and_then (hits_in parts.1) (λ n. Ok (l.Examine unit e n)))

abbrev pub disassembling : Placed → Read
disassembling rest =
    let parts = counted rest in
    and_then (place_if parts.0) (λ p. and_then (hits_in parts.1) (λ n. Ok (l.Disassemble p n)))

-- what a word asks for with what comes after it
abbrev pub meaning : Word → Placed → Read
meaning (w.Plain plain) rest = alone plain rest
meaning (w.Motion motion) rest = moving motion rest
meaning w.Help rest = helping rest
meaning w.Break rest = breaking false rest
meaning w.Tbreak rest = breaking true rest
meaning w.Log rest = logging rest
meaning w.Delete rest = deleting rest
meaning (w.Change direction) rest = changing direction rest
meaning w.Print rest = printing rest
meaning w.Display rest = displaying rest
meaning w.Undisplay rest = undisplaying rest
meaning w.Set rest = setting rest
meaning w.Registers rest = naming rest
meaning (w.Examine unit) rest = examining unit rest
meaning w.Disassemble rest = disassembling rest
meaning w.List rest = listing rest

-- ---- a line

abbrev pub word_if : Option (List ℕ) → Option Word
word_if None = None
word_if (Some name) = word_of name

abbrev pub word_in : Placed → Option Word
word_in name = word_if (utf8_in name.text)

abbrev pub meaning_of : Option Word → Placed → Read
meaning_of None p = Err (wrong f.UnknownWord (first_word p))
meaning_of (Some word) p = meaning word (after_first p)

-- a part that has a byte, and no blanks round it
abbrev pub said : Placed → Read
said p = meaning_of (word_in (first_word p)) p

abbrev pub line_by : Placed → List ℕ → Read
line_by p [] = Ok l.Again
line_by p (b ∷ text) = if b == 35 then Ok l.Comment else said p

-- what a line asks for, or the first thing that is wrong with it
unfoldable pub line_of : List ℕ → Read
line_of line = line_by (bare (whole line)) (bare (whole line)).text

-- ---- examples

a_breakpoint : line_of (codes "b loop if a0 == 3 hit 2") ≡ Ok (l.Break (record {
  place = place.Label (record { text = codes "loop"; column = 3 });
  condition = Some (record { text = codes "a0 == 3"; column = 11 });
  hits = Some 2;
  is_temporary = false;
}))
unfolding line_of is_utf8 chars encode
a_breakpoint = refl

four_words : line_of (codes "x sp 4") ≡ Ok (l.Examine u.Words (record { text = codes "sp"; column = 3 }) (Some 4))
unfolding line_of is_utf8 chars encode
four_words = refl

a_sum : line_of (codes "x sp + 4") ≡ Ok (l.Examine u.Words (record { text = codes "sp + 4"; column = 3 }) None)
unfolding line_of is_utf8 chars encode
a_sum = refl

once : line_of (codes "  si ") ≡ Ok (l.Move m.StepInstruction 1)
unfolding line_of is_utf8 chars encode
once = refl

nothing_to_print : line_of (codes "print") ≡ Err (record { fault = f.Missing a.Expression; column = 6 })
unfolding line_of is_utf8 chars encode
nothing_to_print = refl
