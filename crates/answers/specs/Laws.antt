-- What the definitions promise.
use Rattle.std.specs.Prelude.{codes, true, false, All, IfOk, IfSome, ◌^◌}
use Rattle.std.specs.Prelude.{◌≡◌, ◌↔◌, ℕ, ◌+◌, ◌<◌, ◌≤◌, IsTrue, List, [], ◌∷◌, length, map, slice_index}
use Rattle.std.specs.Prelude.{Option, Some, None, Result, Ok, ℤ, pos, ◌+ℤ◌, ◌*◌, slice_get}
use Rattle.breakpoints.specs.Trees.{Tree}
use Rattle.image.specs.Lines.{Table, line_in, start_of}
use Rattle.image.specs.Memory.{byte_at, fault_at, first_address}
use Rattle.protocol.specs.Commands.{name_of}
use Rattle.protocol.specs.Laws.{AsksLinesWithin}
use Rattle.protocol.specs.declared.command.Command.{Command}
use Rattle.protocol.specs.declared.disassemble.DisassembleArguments.{DisassembleArguments}
use Rattle.protocol.specs.declared.read_memory.ReadMemoryArguments.{ReadMemoryArguments}
use Rattle.protocol.specs.declared.refusal.Refusal.{Refusal}
use Rattle.message_parts.specs.EncodedBytes.{are_bytes}
use Rattle.message_parts.specs.declared.read_memory.ReadMemory.{ReadMemory}
use Rattle.message_parts.specs.declared.set_breakpoints.SourceBreakpoint as at_line
use Rattle.message_parts.specs.declared.set_breakpoints.SourceBreakpoint.TheVariants as line
use Rattle.message_parts.specs.declared.set_instruction_breakpoints.InstructionBreakpoint as at_instruction
use Rattle.message_parts.specs.declared.set_instruction_breakpoints.InstructionBreakpoint.TheVariants as instruction
use Rattle.replies.specs.Responses.{IsOutcomeOf}
use Rattle.replies.specs.declared.response.Outcome.TheVariants.{Done}
use Rattle.replies.specs.declared.response.ResponseBody.{ResponseBody}
use Rattle.replies.specs.declared.response.ResponseBody.TheVariants.{ReadMemory as Bytes}
use Rattle.replies.specs.declared.response.ResponseBody.TheVariants.{SetBreakpoints, SetFunctionBreakpoints}
use Rattle.replies.specs.declared.response.ResponseBody.TheVariants.{SetInstructionBreakpoints}
use Rattle.answers.specs.Answers.{asks_too_much, breaks_answer, count_asked, sets_breakpoints}
use Rattle.breakpoints.specs.Stops.{Wanted}
use Rattle.rv32i.specs.Texts.{IsTextOf}
use Rattle.answers.specs.Disassemble.{disassemble, entries_from, entry}
use Rattle.answers.specs.Looking.{look_answer, looks_in}
use Rattle.answers.specs.ReadMemory.{read_memory}
use Rattle.answers.specs.SetVariable.{set_variable}
use Rattle.answers.specs.Texts.{text_at}
use Rattle.answers.specs.Expressions.{IsExpression, expression_of}
use Rattle.answers.specs.WriteMemory.{write_memory}
use Rattle.answers.specs.declared.view.View.{View}
use Rattle.protocol.specs.declared.set_variable.SetVariableArguments.{SetVariableArguments}
use Rattle.protocol.specs.declared.write_memory.WriteMemoryArguments.{WriteMemoryArguments}
use Rattle.stepping.specs.Ticks.{Debugged}
use Rattle.variables.specs.Numbers.{Numbers}

-- a text is read as a tree exactly where it is that expression by the rules
abbrev pub ExpressionsAreRead : Type 0
ExpressionsAreRead = (text : List ℕ) (tree : Tree) → (expression_of text ≡ Some tree) ↔ IsExpression text tree

-- a text is that of a word at an address exactly where it is its disassembly by the rules
abbrev pub TextsAreDisassemblies : Type 0
TextsAreDisassemblies = (word pc : ℕ) (text : List ℕ) → (text_at word pc ≡ text) ↔ IsTextOf word pc text

-- ---- what looks into memory tell

-- What is asked for is read or missing. Each byte that is read is that of its address, and where some are missing,
-- memory has no byte at the next address.
pub record IsRead (memory : List ℕ) (count : ℕ) (body : ReadMemory) : Type 0 where
  pub all : length body.bytes + body.unreadable_bytes ≡ count
  pub each : (k : ℕ) → k < length body.bytes → slice_get body.bytes k ≡ byte_at memory (body.address + k)
  pub missing : 0 < body.unreadable_bytes → byte_at memory (body.address + length body.bytes) ≡ None

-- So it is of each success, in a memory of no more bytes than memory can have.
abbrev pub BytesAreRead : Type 0
BytesAreRead = (memory : List ℕ) (arguments : ReadMemoryArguments) (body : ReadMemory) → length memory ≤ 16777216 →
    read_memory memory arguments ≡ Ok (Bytes body) → IsRead memory arguments.count body

-- There are as many entries as are asked for, and the k-th, from 0, is for the place 4 * k above the first.
abbrev pub EntriesHaveTheirPlaces : Type 0
EntriesHaveTheirPlaces = (memory : List ℕ) (first : ℤ) (count : ℕ) →
    (length (entries_from memory first count) ≡ count)
    × ((k : ℕ) → k < count → slice_get (entries_from memory first count) k ≡ Some (entry memory (first +ℤ pos (4 * k))))

-- ---- what an answer says is set: numbers and addresses

abbrev pub set_at_lines : List at_line.SourceBreakpoint → List (ℕ × ℕ)
set_at_lines [] = []
set_at_lines ((line.Verified id address l) ∷ others) = (id, address) ∷ set_at_lines others
set_at_lines ((line.Unverified l message) ∷ others) = set_at_lines others

abbrev pub set_at_instructions : List at_instruction.InstructionBreakpoint → List (ℕ × ℕ)
set_at_instructions [] = []
set_at_instructions ((instruction.Verified id address) ∷ others) = (id, address) ∷ set_at_instructions others
set_at_instructions ((instruction.Unverified message) ∷ others) = set_at_instructions others

abbrev pub set_by_body : Result ResponseBody Refusal → List (ℕ × ℕ)
set_by_body (Ok (SetBreakpoints body)) = set_at_lines body.breakpoints
set_by_body (Ok (SetFunctionBreakpoints body)) = set_at_instructions body.breakpoints
set_by_body (Ok (SetInstructionBreakpoints body)) = set_at_instructions body.breakpoints
set_by_body other = []

-- how many entries it has
abbrev pub entries_in : Result ResponseBody Refusal → ℕ
entries_in (Ok (SetBreakpoints body)) = length body.breakpoints
entries_in (Ok (SetFunctionBreakpoints body)) = length body.breakpoints
entries_in (Ok (SetInstructionBreakpoints body)) = length body.breakpoints
entries_in other = 0

-- the breakpoints of the list that is set, if one is
abbrev pub those_set : Option (List Wanted) → List Wanted
those_set None = []
those_set (Some list) = list

-- What the entries say is set is what is set: the same numbers at the same addresses, in one order.
abbrev pub EntriesTellTheList : Type 0
EntriesTellTheList = (command : Command) (table : Table) (size : ℕ) (view : View) (next : ℕ) →
    set_by_body (breaks_answer command table size view next).result
    ≡ map (λ w. (w.id, w.address)) (those_set (breaks_answer command table size view next).list)

-- The numbers of those that are set follow each other, from the given one on.
abbrev pub NumbersFollowEachOther : Type 0
NumbersFollowEachOther = (command : Command) (table : Table) (size : ℕ) (view : View) (next k : ℕ) →
    k < length (those_set (breaks_answer command table size view next).list) →
    slice_index (map (λ w. w.id) (those_set (breaks_answer command table size view next).list)) k ≡ next + k

-- Each breakpoint that is asked for has an entry, where no more is asked for than may be.
abbrev pub EachHasItsEntry : Type 0
EachHasItsEntry = (command : Command) (table : Table) (size : ℕ) (view : View) (next : ℕ) →
    IsTrue (sets_breakpoints command) → asks_too_much command ≡ false →
    entries_in (breaks_answer command table size view next).result ≡ count_asked command

-- ---- answers that can be sent

-- lines and addresses of a table are numbers of 32 bits
pub record IsNarrow (table : Table) : Type 0 where
  pub lines : All (λ row. line_in row < 2 ^ 32) table.rows
  pub places : All (λ row. start_of row < 2 ^ 32) table.rows

-- so are those of the breakpoints that are set, from this one on
abbrev pub NumbersFit : ℕ → Option (List Wanted) → Type 0
NumbersFit next list = IfSome list (λ list. next + length list ≤ 2 ^ 32)

-- The body is that of the request, and its numbers are in their ranges, where the end of memory is an address.
abbrev pub AnswersAreProper : Type 0
AnswersAreProper = (command : Command) (table : Table) (size : ℕ) (view : View) (next : ℕ) →
    IsTrue (sets_breakpoints command) → IsNarrow table → first_address + size < 2 ^ 32 → AsksLinesWithin command →
    NumbersFit next (breaks_answer command table size view next).list →
    IfOk (breaks_answer command table size view next).result (λ body. IsOutcomeOf (name_of command) (Done body))

-- The body of what looks into memory is that of the request, and its numbers are in their ranges, where memory is a list
-- of bytes.
abbrev pub BytesAreProper : Type 0
BytesAreProper = (memory : List ℕ) (arguments : ReadMemoryArguments) → are_bytes memory ≡ true →
    IfOk (read_memory memory arguments) (λ body. IsOutcomeOf (codes "readMemory") (Done body))

abbrev pub EntriesAreProper : Type 0
EntriesAreProper = (memory : List ℕ) (arguments : DisassembleArguments) → are_bytes memory ≡ true →
    IfOk (disassemble memory arguments) (λ body. IsOutcomeOf (codes "disassemble") (Done body))

-- the numbers of a machine are words, its memory is a list of bytes, and no more calls are kept than can be
pub record HoldsWords (machine : Debugged) : Type 0 where
  pub pc : machine.hart.pc < 2 ^ 32
  pub registers : All (λ value. value < 2 ^ 32) machine.hart.x
  pub memory : All (λ byte. byte < 2 ^ 8) machine.memory
  pub calls : All (λ address. address < 2 ^ 32) machine.calls.calls
  pub few : length machine.calls.calls ≤ 256

-- the numbers that a stop has are among those that may be issued
pub record AreIssued (numbers : Numbers) : Type 0 where
  pub within : numbers.first + length numbers.targets ≤ numbers.last + 1
  pub last : numbers.last ≤ 2147483647

-- So is the body of each request that looks into such a machine.
abbrev pub LooksAreProper : Type 0
LooksAreProper = (command : Command) (machine : Debugged) (table : Table) (numbers : Numbers) (view : View) →
    IsTrue (looks_in command) → HoldsWords machine → IsNarrow table → AreIssued numbers → view.column_base < 2 ^ 32 →
    IfOk (look_answer command machine table numbers view).result (λ body. IsOutcomeOf (name_of command) (Done body))

-- So is that of a variable that is set, and of bytes that are written, on any machine.
abbrev pub SettingsAreProper : Type 0
SettingsAreProper = (arguments : SetVariableArguments) (machine : Debugged) (numbers : Numbers) →
    IfOk (set_variable arguments machine numbers) (λ setting. IsOutcomeOf (codes "setVariable") (Done setting.body))

abbrev pub WritingsAreProper : Type 0
WritingsAreProper = (arguments : WriteMemoryArguments) (memory : List ℕ) →
    IfOk (write_memory arguments memory) (λ writing. IsOutcomeOf (codes "writeMemory") (Done writing.body))

-- ---- what is changed

-- The hart that is set holds words as the one before does.
abbrev pub SettingsKeepWords : Type 0
SettingsKeepWords = (arguments : SetVariableArguments) (machine : Debugged) (numbers : Numbers) → HoldsWords machine →
    IfOk (set_variable arguments machine numbers) (λ setting. HoldsWords (record machine { hart = setting.hart }))

-- What is to be written fits into memory, and is no more than is given.
abbrev pub WritingsFit : Type 0
WritingsFit = (arguments : WriteMemoryArguments) (memory : List ℕ) →
    IfOk (write_memory arguments memory)
    (λ writing. (writing.count ≤ length arguments.bytes) × (fault_at memory 1 writing.address writing.count ≡ None))
