-- Laws of operands: what a line says by the forms that its operands have.
--
-- A line here is a mnemonic, one space, and operands with a comma and a space between; each other
-- line with a statement says what such a line says, and its labels (LinesArePlain). An operand is
-- any bytes that one may have, right or wrong. Which mnemonics take which forms is said in
-- Mnemonics.
use Rattle.std.specs.Prelude.{◌≡◌, ℕ, ◌-◌, ◌*◌, ◌%◌, ◌^◌, ◌<◌, ◌≤◌, Bool, true, false, ◌==◌, not}
use Rattle.std.specs.Prelude.{◌&&◌, if◌then◌else◌, ◌⊎◌}
use Rattle.std.specs.Prelude.{List, [], ◌∷◌, ◌++◌, take, Some, Result, Ok, Err, codes, ⊤}
use Rattle.std.specs.List.{list_all}
use Rattle.std.specs.Str.{bytes_eq}
use Rattle.std.specs.Str.Parse.{IsNumeral, digits_value}
use Rattle.byte_strings.specs.Blanks.{trimmed}
use Rattle.rv32i.specs.Machine.{sum}
use Rattle.rv32i.specs.Names.{Names}
use Rattle.rv32i.specs.Texts.{with_three, with_two}
use Rattle.statements.specs.Grammar.{AllBlank, Division, IsLine}
use Rattle.rv32i.specs.declared.instr.Instr.TheVariants as i
use Rattle.statements.specs.Instructions.{constant}
use Rattle.statements.specs.Mnemonics.{mnemonic_of}
use Rattle.statements.specs.Operands.{is_operand, operand_list}
use Rattle.statements.specs.Operations.{immediate_instruction, lower_part, register_instruction}
use Rattle.statements.specs.Operations.{shift_instruction}
use Rattle.statements.specs.Operations.{store_instruction, upper_part}
use Rattle.statements.specs.Pseudo.{IsShort, Puts}
use Rattle.statements.specs.Reading.{read, without_comment}
use Rattle.statements.specs.Spelling.{is_name}
use Rattle.statements.specs.Texts.{stated_alone}
use Rattle.statements.specs.declared.error.LineError.{LineError}
use Rattle.statements.specs.declared.error.LineError.TheVariants.{BadOperand, OutOfRange}
use Rattle.statements.specs.declared.line.Line.{Line}
use Rattle.statements.specs.declared.mnemonics.Mnemonic.{Mnemonic}
use Rattle.statements.specs.declared.mnemonics.Mnemonic.TheVariants.{Branch, Immediate}
use Rattle.statements.specs.declared.mnemonics.Mnemonic.TheVariants.{JumpAndLinkRegister, Load}
use Rattle.statements.specs.declared.mnemonics.Mnemonic.TheVariants.{Registers, Shift, Store}
use Rattle.statements.specs.declared.operations.Condition.{Condition}
use Rattle.statements.specs.declared.operations.ImmediateOperation.{ImmediateOperation}
use Rattle.statements.specs.declared.operations.ImmediateOperation.TheVariants.{Jalr}
use Rattle.statements.specs.declared.operations.RegisterOperation.{RegisterOperation}
use Rattle.statements.specs.declared.operations.ShiftOperation.{ShiftOperation}
use Rattle.statements.specs.declared.operations.StoreOperation.{StoreOperation}
use Rattle.statements.specs.declared.statement.Statement.{Statement}
use Rattle.statements.specs.declared.statement.Statement.TheVariants as say
use Rattle.statements.specs.declared.statement.Target.TheVariants.{Address, Label}

-- ---- operands, and lines of them

-- bytes of an operand: no comma, which would end it, and no number sign, which would begin a
-- comment
abbrev pub is_quiet : List ℕ → Bool
is_quiet text = list_all (λ b. not (b == 44) && not (b == 35)) text

-- an operand: one such byte or more, with no blanks round them; there may be some among them
pub record IsOperand (text : List ℕ) : Type 0 where
  pub some : is_operand text ≡ true
  pub bare : trimmed text ≡ text
  pub quiet : is_quiet text ≡ true

-- each text of a list is an operand
abbrev pub AreOperands : List (List ℕ) → Type 0
AreOperands [] = ⊤
AreOperands (operand ∷ others) = IsOperand operand × AreOperands others

-- operands, with a comma and a space between
abbrev pub commas : List (List ℕ) → List ℕ
commas [] = []
commas (operand ∷ []) = operand
commas (operand ∷ next ∷ others) = operand ++ (codes ", " ++ commas (next ∷ others))

-- a mnemonic and its operands
abbrev pub line_with : List ℕ → List (List ℕ) → List ℕ
line_with name [] = name
line_with name (operand ∷ others) = name ++ (codes " " ++ commas (operand ∷ others))

-- a line that is divided into these labels, a mnemonic and the text of its operands
abbrev pub divided : List (List ℕ) → List ℕ → List ℕ → Division
divided labels mnemonic operands = record { labels = labels; spoken = Some (mnemonic, operands) }

-- the line with other labels
abbrev pub labelled : List (List ℕ) → Result Line LineError → Result Line LineError
labelled labels (Ok line) = Ok (record { labels = labels; statement = line.statement })
labelled labels (Err error) = Err error

-- Each line with a statement says what the line says that is its mnemonic and its operands, and its
-- labels: so what holds of these lines holds of each line with a statement, whatever its blanks,
-- its labels and its comment are. Its operands are operands.
pub record LinesArePlain : Type 0 where
  pub plain : (line mnemonic operands : List ℕ) (labels : List (List ℕ)) →
      IsLine (without_comment line) (divided labels mnemonic operands) →
      read line ≡ labelled labels (read (line_with mnemonic (operand_list operands)))
  pub operands : (line mnemonic operands : List ℕ) (labels : List (List ℕ)) →
      IsLine (without_comment line) (divided labels mnemonic operands) →
      AreOperands (operand_list operands)

-- ---- registers

-- an instruction of three registers is of those that its operands name, by any of their names
abbrev pub RegistersHaveNames : Type 0
RegistersHaveNames = (name a b c : List ℕ) (op : RegisterOperation) (rd rs1 rs2 : ℕ) →
    mnemonic_of name ≡ Some (Registers op) → Names a rd → Names b rs1 → Names c rs2 →
    read (with_three name a b c) ≡ stated_alone (say.One (register_instruction op rd rs1 rs2))

-- ---- addresses: a register in brackets after an offset

-- a text in brackets
abbrev pub in_brackets : List ℕ → List ℕ
in_brackets text = codes "(" ++ (text ++ codes ")")

-- the same with blanks before the opening bracket, after it, and before the closing one
abbrev pub in_spaced_brackets : (before after text last : List ℕ) → List ℕ
in_spaced_brackets before after text last =
    before ++ (codes "(" ++ (after ++ (text ++ (last ++ codes ")"))))

-- what may stand in brackets here: bytes of an operand, with no blanks round them
pub record IsInner (text : List ℕ) : Type 0 where
  pub bare : trimmed text ≡ text
  pub quiet : is_quiet text ≡ true

-- no bracket closes in a text
abbrev pub is_unclosed : List ℕ → Bool
is_unclosed text = list_all (λ b. not (b == 41)) text

-- whether a text begins with `%lo`, or with `%hi`
abbrev pub begins_low : List ℕ → Bool
begins_low text = bytes_eq (take 3 text) (codes "%lo")

abbrev pub begins_high : List ℕ → Bool
begins_high text = bytes_eq (take 3 text) (codes "%hi")

-- what may stand before a bracket as an offset, right or wrong: no bracket opens in it, and it does
-- not begin with `%lo`
abbrev pub is_offset : List ℕ → Bool
is_offset text = not (begins_low text) && list_all (λ b. not (b == 40)) text

-- the lower bits of a label's address, and the upper ones
abbrev pub low_of : List ℕ → List ℕ
low_of label = codes "%lo" ++ in_brackets label

abbrev pub high_of : List ℕ → List ℕ
high_of label = codes "%hi" ++ in_brackets label

-- whether a mnemonic takes a register and an address: loads, stores and `jalr`
abbrev pub takes_address : Mnemonic → Bool
takes_address (Load op) = true
takes_address (Store op) = true
takes_address JumpAndLinkRegister = true
takes_address other = false

-- two operands are the same address: each load, each store and `jalr` reads them alike
abbrev pub SameAddress : List ℕ → List ℕ → Type 0
SameAddress a b =
    (name register : List ℕ) (mnemonic : Mnemonic) → mnemonic_of name ≡ Some mnemonic →
    takes_address mnemonic ≡ true → IsOperand register →
    read (with_two name register a) ≡ read (with_two name register b)

-- two operands are the same immediate: each instruction with a register and an immediate reads them
-- alike
abbrev pub SameImmediate : List ℕ → List ℕ → Type 0
SameImmediate a b =
    (name rd rs1 : List ℕ) (op : ImmediateOperation) → mnemonic_of name ≡ Some (Immediate op) →
    IsOperand rd → IsOperand rs1 → read (with_three name rd rs1 a) ≡ read (with_three name rd rs1 b)

-- `(r)` is `0(r)`, whatever r is
abbrev pub NoOffsetIsZero : Type 0
NoOffsetIsZero =
    (r : List ℕ) → is_quiet r ≡ true → SameAddress (in_brackets r) (codes "0" ++ in_brackets r)

-- blanks round brackets change nothing: in `i(r)`, in `(r)`, in `%lo(x)(r)`, in `%lo(x)` and in
-- `%hi(x)`
pub record BlanksChangeNothing : Type 0 where
  pub offset : (i r p q s : List ℕ) → IsOperand i → is_offset i ≡ true → IsInner r →
      AllBlank p → AllBlank q → AllBlank s →
      SameAddress (i ++ in_spaced_brackets p q r s) (i ++ in_brackets r)
  pub register : (r q s : List ℕ) → IsInner r → AllBlank q → AllBlank s →
      SameAddress (in_spaced_brackets [] q r s) (in_brackets r)
  pub part : (x r p q s t u v : List ℕ) → IsInner x → is_unclosed x ≡ true → IsInner r →
      AllBlank p → AllBlank q → AllBlank s → AllBlank t → AllBlank u → AllBlank v → SameAddress
      (codes "%lo" ++ (in_spaced_brackets p q x s ++ in_spaced_brackets t u r v))
      (low_of x ++ in_brackets r)
  pub low : (x p q s : List ℕ) → IsInner x → AllBlank p → AllBlank q → AllBlank s →
      SameImmediate (codes "%lo" ++ in_spaced_brackets p q x s) (low_of x)
  pub high : (d x p q s : List ℕ) → IsOperand d → IsInner x → AllBlank p → AllBlank q → AllBlank s →
      read (with_two (codes "lui") d (codes "%hi" ++ in_spaced_brackets p q x s)) ≡
      read (with_two (codes "lui") d (high_of x))

-- `jalr d, s, i` is `jalr d, i(s)`: with an offset as i, right or wrong, and with `%lo` and a label
pub record JalrIsAlike : Type 0 where
  pub number : (d s i : List ℕ) → IsOperand d → IsOperand s → IsOperand i →
      is_offset i ≡ true →
      read (with_three (codes "jalr") d s i) ≡ read (with_two (codes "jalr") d (i ++ in_brackets s))
  pub part : (d s x : List ℕ) → IsOperand d → IsOperand s → IsInner x → is_unclosed x ≡ true →
      read (with_three (codes "jalr") d s (low_of x)) ≡ read
      (with_two (codes "jalr") d (low_of x ++ in_brackets s))

-- ---- the parts of a label's address

-- `%hi` and `%lo` of a label are the upper and the lower part of its address: in `lui`, in an
-- instruction with an immediate, in a load, in `jalr` and in a store; and the two parts of an
-- address add up to it
pub record PartsOfAddresses : Type 0 where
  pub upper : (d x : List ℕ) (rd : ℕ) → Names d rd → is_name x ≡ true →
      read (with_two (codes "lui") d (high_of x)) ≡ stated_alone (say.Upper rd x)
  pub immediate : (name d s x : List ℕ) (op : ImmediateOperation) (rd rs1 : ℕ) →
      mnemonic_of name ≡ Some (Immediate op) → Names d rd → Names s rs1 → is_name x ≡ true →
      read (with_three name d s (low_of x)) ≡ stated_alone (say.Lower op rd rs1 x)
  pub load : (name d s x : List ℕ) (op : ImmediateOperation) (rd rs1 : ℕ) →
      mnemonic_of name ≡ Some (Load op) →
      Names d rd → Names s rs1 → is_name x ≡ true →
      read (with_two name d (low_of x ++ in_brackets s)) ≡ stated_alone (say.Lower op rd rs1 x)
  pub jalr : (d s x : List ℕ) (rd rs1 : ℕ) → Names d rd → Names s rs1 → is_name x ≡ true →
      read (with_two (codes "jalr") d (low_of x ++ in_brackets s)) ≡ stated_alone
      (say.Lower Jalr rd rs1 x)
  pub store : (name t s x : List ℕ) (op : StoreOperation) (rs2 rs1 : ℕ) →
      mnemonic_of name ≡ Some (Store op) →
      Names t rs2 → Names s rs1 → is_name x ≡ true →
      read (with_two name t (low_of x ++ in_brackets s)) ≡ stated_alone
      (say.StoreLower op rs1 rs2 x)
  pub add_up : (n : ℕ) → n < 2 ^ 32 → (upper_part n % 4096 ≡ 0) × IsShort (lower_part n) ×
      (sum (upper_part n) (lower_part n) ≡ n)

-- ---- targets

-- a label as the target of a branch or of a jump is that label
pub record LabelsAreTargets : Type 0 where
  pub branch : (name a b label : List ℕ) (condition : Condition) (rs1 rs2 : ℕ) →
      mnemonic_of name ≡ Some (Branch condition) → Names a rs1 → Names b rs2 →
      is_name label ≡ true →
      read (with_three name a b label) ≡ stated_alone (say.Branch condition rs1 rs2 (Label label))
  pub jump : (d label : List ℕ) (rd : ℕ) → Names d rd → is_name label ≡ true →
      read (with_two (codes "jal") d label) ≡ stated_alone (say.Jump rd (Label label))

-- ---- numbers

-- digits of a radix, one or more, write a number
abbrev pub DigitsWrite : ℕ → List ℕ → ℕ → Type 0
DigitsWrite radix digits n = IsNumeral radix digits × (digits_value radix digits ≡ n)

-- a text writes a magnitude: in decimal digits, or in hexadecimal ones after `0x`
abbrev pub WritesMagnitude : List ℕ → ℕ → Type 0
WritesMagnitude text n =
    DigitsWrite 10 text n ⊎
    ((digits : List ℕ) × ((text ≡ codes "0x" ++ digits) × DigitsWrite 16 digits n))

-- a text is a number, negative or not, with this magnitude: a negative one has a `-` before it
abbrev pub IsNumber : List ℕ → Bool → ℕ → Type 0
IsNumber text false n = WritesMagnitude text n
IsNumber text true n = (digits : List ℕ) × ((text ≡ codes "-" ++ digits) × WritesMagnitude digits n)

-- the 32 bits of a number, in two's complement
abbrev pub bits : Bool → ℕ → ℕ
bits negative n = if negative then (2 ^ 32 - n) % 2 ^ 32 else n

-- A place in a line takes the numbers from -below to above, and nothing else but what is excepted:
-- with such a number there the line states what its bits give; with another number there it is out
-- of range; and with an operand there that is no number, and not excepted, it has a bad operand.
pub record TakesNumbers (below above : ℕ) (excepted : List ℕ → Bool) (line : List ℕ → List ℕ)
    (statement : ℕ → Statement) : Type 0 where
  pub within : (text : List ℕ) (negative : Bool) (n : ℕ) → IsNumber text negative n →
      n ≤ (if negative then below else above) →
      read (line text) ≡ stated_alone (statement (bits negative n))
  pub beyond : (text : List ℕ) (negative : Bool) (n : ℕ) → IsNumber text negative n →
      (if negative then below else above) < n → read (line text) ≡ Err OutOfRange
  pub other : (text : List ℕ) → IsOperand text →
      ((negative : Bool) (n : ℕ) → IsNumber text negative n → ⊥) →
      excepted text ≡ false → read (line text) ≡ Err BadOperand

-- nothing is excepted
abbrev pub none : List ℕ → Bool
none text = false

-- what cannot be an offset is excepted
abbrev pub is_no_offset : List ℕ → Bool
is_no_offset text = not (is_offset text)

-- the places for numbers in instructions, with their ranges; and what `li` states puts the number
pub record NumbersHaveRanges : Type 0 where
  pub immediate : (name d s : List ℕ) (op : ImmediateOperation) (rd rs1 : ℕ) →
      mnemonic_of name ≡ Some (Immediate op) → Names d rd → Names s rs1 →
      TakesNumbers 2048 2047 begins_low
      (with_three name d s) (λ imm. say.One (immediate_instruction op rd rs1 imm))
  pub load : (name d s : List ℕ) (op : ImmediateOperation) (rd rs1 : ℕ) →
      mnemonic_of name ≡ Some (Load op) →
      Names d rd → Names s rs1 → TakesNumbers 2048 2047 is_no_offset
      (λ offset. with_two name d (offset ++ in_brackets s))
      (λ imm. say.One (immediate_instruction op rd rs1 imm))
  pub jalr : (d s : List ℕ) (rd rs1 : ℕ) → Names d rd → Names s rs1 →
      TakesNumbers 2048 2047 is_no_offset
      (λ offset. with_two (codes "jalr") d (offset ++ in_brackets s))
      (λ imm. say.One (i.Jalr rd rs1 imm))
  pub store : (name t s : List ℕ) (op : StoreOperation) (rs2 rs1 : ℕ) →
      mnemonic_of name ≡ Some (Store op) →
      Names t rs2 → Names s rs1 → TakesNumbers 2048 2047 is_no_offset
      (λ offset. with_two name t (offset ++ in_brackets s))
      (λ imm. say.One (store_instruction op rs1 rs2 imm))
  pub shift : (name d s : List ℕ) (op : ShiftOperation) (rd rs1 : ℕ) →
      mnemonic_of name ≡ Some (Shift op) →
      Names d rd → Names s rs1 →
      TakesNumbers 0 31 none (with_three name d s)
      (λ shamt. say.One (shift_instruction op rd rs1 shamt))
  pub lui : (d : List ℕ) (rd : ℕ) → Names d rd →
      TakesNumbers 0 1048575 begins_high (with_two (codes "lui") d)
      (λ n. say.One (i.Lui rd (n * 4096)))
  pub auipc : (d : List ℕ) (rd : ℕ) → Names d rd →
      TakesNumbers 0 1048575 none (with_two (codes "auipc") d)
      (λ n. say.One (i.Auipc rd (n * 4096)))
  pub li : (d : List ℕ) (rd : ℕ) → Names d rd →
      TakesNumbers 2147483648 4294967295 none (with_two (codes "li") d) (constant rd)
  pub constants : (rd n : ℕ) → n < 2 ^ 32 → Puts rd n (constant rd n)
  pub branch : (name a b : List ℕ) (condition : Condition) (rs1 rs2 : ℕ) →
      mnemonic_of name ≡ Some (Branch condition) →
      Names a rs1 → Names b rs2 → TakesNumbers 0 4294967295 is_name
      (with_three name a b) (λ n. say.Branch condition rs1 rs2 (Address n))
  pub jump : (d : List ℕ) (rd : ℕ) → Names d rd →
      TakesNumbers 0 4294967295 is_name (with_two (codes "jal") d) (λ n. say.Jump rd (Address n))
