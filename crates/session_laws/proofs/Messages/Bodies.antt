-- Each body that answers a request can be read: its texts are UTF-8, and it is written in fewer than 4,000,000,000 bytes.
use Rattle.session_laws.proofs.Messages.Common.{[], addresses, All, All-append, All-cons, All-drop, All-filter, All-head, All-map, All-nil, All-tail, All-take, All-weaker, Answer, AreTexts, arith, asked_of, at_most, body_by as variables_by, Bool, breaks_answer, bytes_at, bytes_from, codes, Command, Debugged, decimal, drop, entries_of, eqb, Err, false, fault_at, file_name, Filter, find, first_address, first_greatest, followed_by, frame_at, frames_given, get_or, Hart, HoldsWords, if_keeps, IfOk, IfSome, in_image, Indexed, indices, InstructionBreakpoint as AddressEntry, Label, label_at, leb, leb-true, length, length-append, length-drop, length-map, length-take, line_of, List, list_all-append, list_of, little_endian, look_answer, ltb, map, message_of, min, most_of_body, most_of_frame, most_of_instruction, most_of_instruction_breakpoint, most_of_source, most_of_source_breakpoint, most_of_variable, name_at, name_by, next_after, None, Numbers, of_kind, Ok, Option, option_map, or_parts, part, place_of, pos, prefix_len, range_with_len, read, ReadMemoryArguments, refl, Refusal, Registers, ResponseBody, Result, result_ok, set_variable, SetVariableArguments, slice_index, Some, source_by, SourceBreakpoint, Stack, start_at, start_by, suc, sum_by, sum_by-le, Table, take, take_while, Target, target_of, texts_are_escaped, texts_if, texts_of, TooMuch, true, unless_fault, up_to, Variable, variables_in, VariablesArguments, View, Wanted, whole, with_targets, word_of, write_memory, WriteMemoryArguments, written_length, zero, ℕ, ℤ, ◌*◌, ◌++◌, ◌+ℤ◌, ◌+◌, ◌-◌, ◌<◌, ◌^◌, ◌∷◌, ◌≡◌, ◌≤◌}
use Rattle.std.proofs.Common.{ltb-false}
use Rattle.answers.specs.Disassemble.{disassembled, entries_from, entry, entry_by, first_place, start_by as places_by, word_in, wrapped}
use Rattle.answers.specs.SetBreakpoints as source
use Rattle.answers.specs.SetFunctionBreakpoints as function
use Rattle.answers.specs.SetInstructionBreakpoints as instruction
use Rattle.answers.proofs.ProperLooks.{of_bytes, some_dropped}
use Rattle.answers.proofs.Ranges.{length_range}
use Rattle.answers.proofs.Words.{all_bytes, small_at}
use Rattle.numerals.specs.MemoryReferences.{address_of, offset_by}
use Rattle.protocol.specs.declared.command.Command.TheVariants as command
use Rattle.protocol.specs.declared.disassemble.DisassembleArguments.{DisassembleArguments}
use Rattle.message_parts.specs.Disassemble.{instruction as entry_form}
use Rattle.message_parts.specs.EncodedBytes.{are_bytes}
use Rattle.message_parts.specs.SetBreakpoints.{source_breakpoint}
use Rattle.message_parts.specs.SetInstructionBreakpoints.{instruction_breakpoint}
use Rattle.message_parts.specs.StackTrace.{source as source_form, stack_frame}
use Rattle.message_parts.specs.Variables.{variable}
use Rattle.message_parts.specs.declared.disassemble.Instruction.{Instruction}
use Rattle.message_parts.specs.declared.set_breakpoints.SourceBreakpoint.{SourceBreakpoint as LineEntry}
use Rattle.message_parts.specs.declared.stack_trace.StackFrame.{StackFrame}
use Rattle.replies.specs.Bodies.{texts_in}
use Rattle.variables.specs.Registers.{counter, numbers, register, registers}
use Rattle.variables.specs.Stack.{has_word, stack_words, word}
use Rattle.session_laws.proofs.Messages.FileNames.{file_name_within}
use Rattle.session_laws.proofs.Messages.Instructions.{digits_plain, disassembly_plain, name_few, name_plain}
use Rattle.session_laws.proofs.Messages.Programs.{Few, IsShortLabel, IsShortText, SaysShort}
use Rattle.session_laws.proofs.Messages.Requests.{IsShortRequest, WritesShort}
use Rattle.session_laws.proofs.Messages.Words.{IsPlainWithin, decimal_plain, digits_few, spelled, utf8_of, written_of}

-- a body that can be read
abbrev pub IsReadable : ResponseBody → Type 0
IsReadable body = AreTexts (texts_in body) × (most_of_body body ≤ 4000000000)

-- an entry of a list in one: its texts are UTF-8, and it is written in at most so many bytes
abbrev Fits : {A : Type 0} → (A → List (List ℕ)) → (A → ℕ) → ℕ → A → Type 0
Fits texts most each x = AreTexts (texts x) × (most x ≤ each)

pub written_few : (text : List ℕ) (n : ℕ) → length text ≤ n → written_length text ≤ 6 * n + 2
written_few text n h = omega (arith, texts_are_escaped text)

-- ---- lists

pub texts_append : (xs ys : List (List ℕ)) → AreTexts xs → AreTexts ys → AreTexts (xs ++ ys)
texts_append [] ys a b = b
texts_append (x ∷ xs) ys a b = (a.0, texts_append xs ys a.1 b)

all_texts : {A : Type 0} (texts : A → List (List ℕ)) (most : A → ℕ) (each : ℕ) (xs : List A) → All (Fits texts most each) xs
    → AreTexts (texts_of texts xs)
all_texts texts most each [] h = tt
all_texts texts most each (x ∷ xs) h =
    texts_append (texts x) (texts_of texts xs) (All-head (Fits texts most each) x xs h).0
    (all_texts texts most each xs (All-tail (Fits texts most each) x xs h))

-- what is so few bytes more than a list of so many entries, each of so few bytes
listed : {A : Type 0} (texts : A → List (List ℕ)) (most : A → ℕ) (each count : ℕ) (xs : List A)
    → leb (1000 + count * each) 4000000000 ≡ true → Few (Fits texts most each) count xs
    → AreTexts (texts_of texts xs ++ []) × (1000 + sum_by most xs ≤ 4000000000)
listed {A} texts most each count xs le h =
    let sum = sum_by-le most each xs (All-weaker (Fits texts most each) (λ (x : A). most x ≤ each) (λ x fits. fits.1) xs h.0) in
    let all : length xs * each ≤ count * each = grind (arith, h.1) in (
      texts_append (texts_of texts xs) [] (all_texts texts most each xs h.0) tt,
      omega (arith, sum, all, leb-true (1000 + count * each) 4000000000 le),
    )

each_so : {A : Type 0} (P : A → Type 0) (xs : List A) → ((x : A) → P x) → All P xs
each_so P xs h = λ k d below. h (get_or xs k d)

part_few : {A : Type 0} (P : A → Type 0) (most start : ℕ) (count : Option ℕ) (list : List A) → Few P most list
    → Few P most (part start count list)
part_few {A} P most start count list h =
    let left : Few P most (drop start list) = (All-drop P start list h.0, omega (arith, length-drop start list, h.1)) in
    elim count as (λ count. Few P most (at_most count (drop start list))) [
      | None ↦ left
      | Some n ↦ if_keeps (Few P most) (eqb n 0) (drop start list) (take n (drop start list)) (λ _. left)
          (λ _. (All-take P n (drop start list) left.0, omega (arith, length-take n (drop start list), left.1)))
    ]

-- ---- breakpoints: what an entry says of a problem, whichever it is, is a few plain bytes

abbrev DomainOf : {A B : Type 0} → (A → B) → Type 0
DomainOf {A = A} f = A

abbrev Problem : Type 0
Problem = DomainOf message_of

message_fits : (p : Problem) → AreTexts (message_of p ∷ []) × (1000 + written_length (message_of p) ≤ 3000)
message_fits p = let message = spelled 34 (message_of p) (grind arith) in ((utf8_of message, tt), omega (arith, written_of message))

abbrev IsLine : LineEntry → Type 0
IsLine = Fits source_breakpoint.texts most_of_source_breakpoint 3000

line_fits : (base id : ℕ) (asked : SourceBreakpoint) (judged : Result source.Place Problem) → IsLine (source.entry base id asked judged)
line_fits base id asked (Ok place) = (tt, omega arith)
line_fits base id asked (Err problem) = message_fits problem

abbrev IsAddress : AddressEntry → Type 0
IsAddress = Fits instruction_breakpoint.texts most_of_instruction_breakpoint 3000

address_fits : {A : Type 0} (id : ℕ) (asked : A) (judged : Result instruction.Place Problem) → IsAddress (instruction.entry id asked judged)
address_fits id asked (Ok place) = (tt, omega arith)
address_fits id asked (Err problem) = message_fits problem

-- the entries that are answered
entries_few : {A P E : Type 0} (Q : E → Type 0) (judged : A → Result P Problem) (entry : ℕ → A → Result P Problem → E)
    → ((id : ℕ) (asked : A) (found : Result P Problem) → Q (entry id asked found)) → (next : ℕ) (asked : List A)
    → Few Q (length asked) (entries_of judged entry next asked)
entries_few Q judged entry h next [] = (All-nil Q, omega arith)
entries_few Q judged entry h next (one ∷ others) =
    let rest = entries_few Q judged entry h (next_after next (judged one)) others in (
      All-cons Q (entry next one (judged one)) (entries_of judged entry (next_after next (judged one)) others) (h next one (judged one)) rest.0,
      omega (arith, rest.1),
    )

abbrev Says : Wanted → Type 0
Says wanted = SaysShort wanted.log

-- what those say that are set, by what is known of each that is asked for
set_few : {A P : Type 0} (C : A → Type 0) (judged : A → Result P Problem) (wanted : ℕ → P → Wanted)
    → ((one : A) → C one → IfOk (judged one) (λ place. (id : ℕ) → Says (wanted id place))) → (next : ℕ) (asked : List A) → All C asked
    → Few Says (length asked) (list_of judged wanted next asked)
set_few C judged wanted says next [] h = (All-nil Says, omega arith)
set_few {A} {P} C judged wanted says next (one ∷ others) h =
    by (judged one) (says one (All-head C one others h))
    (set_few C judged wanted says (next_after next (judged one)) others (All-tail C one others h)) where
      by : (found : Result P Problem) → IfOk found (λ place. (id : ℕ) → Says (wanted id place))
          → Few Says (length others) (list_of judged wanted (next_after next found) others)
          → Few Says (suc (length others)) (followed_by wanted next found (list_of judged wanted (next_after next found) others))
      by (Ok place) says rest =
          (All-cons Says (wanted next place) (list_of judged wanted (next + 1) others) (says next) rest.0, omega (arith, rest.1))
      by (Err problem) says rest = (rest.0, omega (arith, rest.1))

line_says : (own : Bool) (table : Table) (base : ℕ) (asked : SourceBreakpoint) → WritesShort asked
    → IfOk (source.judged own table base asked) (λ place. (id : ℕ) → Says (source.wanted id place))
line_says false table base asked h = tt
line_says true table base asked h = grind arith

-- an answer that can be read, and a list that is short where one is set
abbrev pub IsFine : Answer → Type 0
IsFine answer = IfOk answer.result IsReadable × IfSome answer.list (Few (λ (w : Wanted). SaysShort w.log) 1024)

lines_fine : (own : Bool) (table : Table) (view : View) (next : ℕ) (asked : List SourceBreakpoint) → length asked ≤ 1024
    → All WritesShort asked → IsFine (source.of_source own table view next asked)
lines_fine own table view next asked few h =
    let base = view.line_base in
    let entries = entries_few IsLine (source.judged own table base) (source.entry base) (line_fits base) next asked in
    (listed source_breakpoint.texts most_of_source_breakpoint 3000 1024 _ refl (entries.0, omega (arith, entries.1, few)), sets own) where
      sets : (own : Bool) → IfSome (source.of_source own table view next asked).list (Few Says 1024)
      sets false = tt
      sets true =
          let set = set_few WritesShort (source.judged true table view.line_base) source.wanted (line_says true table view.line_base) next asked h in
          (set.0, omega (arith, set.1, few))

addresses_fine : {A : Type 0} (judged : A → Result instruction.Place Problem) (next : ℕ) (asked : List A) → length asked ≤ 1024
    → let entries = entries_of judged instruction.entry next asked in
    (AreTexts (texts_of instruction_breakpoint.texts entries ++ []) × (1000 + sum_by most_of_instruction_breakpoint entries ≤ 4000000000))
    × Few Says 1024 (list_of judged instruction.wanted next asked)
addresses_fine {A} judged next asked few =
    let entries = entries_few IsAddress judged instruction.entry (λ id one found. address_fits id one found) next asked in
    let set = set_few (λ (one : A). Unit {0}) judged instruction.wanted (λ one _. grind arith) next asked (λ k d below. tt) in (
      listed instruction_breakpoint.texts most_of_instruction_breakpoint 3000 1024 _ refl (entries.0, omega (arith, entries.1, few)),
      (set.0, omega (arith, set.1, few)),
    )

-- of each request that sets breakpoints
pub breaks_are_readable : (c : Command) (table : Table) (size : ℕ) (view : View) (next : ℕ) → IsShortRequest c
    → IsFine (breaks_answer c table size view next)
breaks_are_readable (command.SetBreakpoints arguments) table size view next h =
    if_keeps IsFine (source.is_too_much arguments.breakpoints) _ _ (λ _. (tt, tt))
    (λ e. lines_fine (source.is_own view.path arguments.source.path) table view next arguments.breakpoints
    (ltb-false 1024 (length arguments.breakpoints) (or_parts (ltb 1024 (length arguments.breakpoints)) _ e).0) h)
breaks_are_readable (command.SetFunctionBreakpoints arguments) table size view next h =
    if_keeps IsFine (ltb 1024 (length arguments.breakpoints)) _ _ (λ _. (tt, tt))
    (λ e. addresses_fine (function.judged table size) next arguments.breakpoints (ltb-false 1024 (length arguments.breakpoints) e))
breaks_are_readable (command.SetInstructionBreakpoints arguments) table size view next h =
    if_keeps IsFine (ltb 1024 (length arguments.breakpoints)) _ _ (λ _. (tt, tt))
    (λ e. addresses_fine (instruction.judged size) next arguments.breakpoints (ltb-false 1024 (length arguments.breakpoints) e))
breaks_are_readable other table size view next h = ((tt, omega arith), tt)

-- ---- frames

found_in : {A : Type 0} (P : A → Type 0) (p : A → Bool) (xs : List A) → All P xs → IfSome (find p xs) P
found_in P p [] h = tt
found_in {A} P p (x ∷ xs) h =
    if_keeps (λ (found : Option A). IfSome found P) (p x) (Some x) (find p xs) (λ _. All-head P x xs h)
    (λ _. found_in P p xs (All-tail P x xs h))

-- what an address goes by
abbrev HasPlainName : Option (List ℕ × ℕ) → Type 0
HasPlainName found = IfSome found (λ f. IsPlainWithin 1048576 f.0)

label_found : (table : Table) (address : ℕ) → All IsShortLabel table.labels → HasPlainName (label_at table address)
label_found table address h =
    if_keeps HasPlainName (in_image table address) _ None
    (λ _. of (first_greatest below) (found_in IsShortLabel _ below (All-filter (λ l. leb (place_of l) address) IsShortLabel table.labels h)))
    (λ _. tt) where
      below : List Label
      below = up_to address table.labels

      of : (label : Option Label) → IfSome label IsShortLabel → HasPlainName (option_map (λ l. (l.0, address - place_of l)) label)
      of label h = grind arith

name_fits : (address : ℕ) (found : Option (List ℕ × ℕ)) → address < 2 ^ 32 → HasPlainName found
    → IsPlainWithin 1048641 (name_by address found)
name_fits address None small h = record { plain = digits_plain address small; few = omega arith }
name_fits address (Some found) small h =
    if_keeps (IsPlainWithin 1048641) (eqb found.1 0) found.0 (found.0 ++ codes "+" ++ decimal found.1)
    (λ _. record { plain = h.plain; few = omega (arith, h.few) })
    (λ _. record {
      plain = simp (list_all-append, h.plain, decimal_plain);
      few = omega (arith, h.few, length-append {A = ℕ}, digits_few 10 found.1);
    })

abbrev IsFrame : StackFrame → Type 0
IsFrame = Fits stack_frame.texts most_of_frame 13640000

frame_fits : (table : Table) (view : View) (issued : Numbers) (places : List ℕ) (index : ℕ) → All IsShortLabel table.labels
    → IsShortText view.path → All (λ address. address < 2 ^ 32) places → IsFrame (frame_at table view issued places index)
frame_fits table view issued places index labels path small = by (line_of table address) where
  address : ℕ
  address = slice_index places index

  name : IsPlainWithin 1048641 (name_at table address)
  name = name_fits address (label_at table address) (small_at places index small) (label_found table address labels)

  file : IsShortText (file_name view.path)
  file = file_name_within 1048576 view.path path

  by : (line : Option ℕ)
      → AreTexts (name_at table address ∷ (texts_if source_form.texts (source_by view line) ++ []))
      × (1000 + written_length (name_at table address) + most_of_source (source_by view line) ≤ 13640000)
  by None = ((utf8_of name, tt), omega (arith, written_of name))
  by (Some line) = (
    (utf8_of name, (file.0, (path.0, tt))),
    omega (arith, written_of name, written_few view.path 1048576 path.1, written_few (file_name view.path) 1048576 file.1),
  )

-- ---- variables

abbrev IsVariable : Variable → Type 0
IsVariable = Fits variable.texts most_of_variable 3000

variable_fits : (v : Variable) → IsPlainWithin 67 v.name → IsVariable v
variable_fits v h = ((utf8_of h, tt), omega (arith, written_of h))

registers_few : (hart : Hart) → Few IsVariable 97 (registers hart)
unfolding registers
registers_few hart = (
  All-append IsVariable (map (register hart) numbers) (counter hart ∷ [])
      (All-map IsVariable (register hart) numbers
      (each_so (λ (n : ℕ). IsVariable (register hart n)) numbers
      (λ n. variable_fits (register hart n) (record { plain = name_plain n; few = omega (arith, name_few n) }))))
      (All-cons IsVariable (counter hart) [] (variable_fits (counter hart) (spelled 67 (codes "pc") refl)) (All-nil IsVariable)),
  omega arith,
)

while_few : {A : Type 0} (test : A → Bool) (list : List A) → length (take_while test list) ≤ length list
while_few test list = omega (arith, length-take (prefix_len test list) list)

words_few : (hart : Hart) (memory : List ℕ) → Few IsVariable 97 (stack_words hart memory)
unfolding stack_words
words_few hart memory =
    let sp : ℕ = slice_index hart.x 2 in
    let all : List ℕ = map (λ (number : ℕ). 4 * number) (range_with_len 0 64) in
    let offsets : List ℕ = take_while (has_word memory sp) all in
    let same : length (map (word memory sp) offsets) ≡ length offsets = length-map offsets (word memory sp) in
    let few : length offsets ≤ length all = while_few (has_word memory sp) all in
    let count : length all ≡ 64 = refl in (
      All-map IsVariable (word memory sp) offsets
          (each_so (λ (o : ℕ). IsVariable (word memory sp o)) offsets
          (λ o. variable_fits (word memory sp o) (record { plain = decimal_plain o; few = omega (arith, digits_few 10 o) }))),
      omega (arith, same, few, count),
    )

kind_few : (kind : Option Filter) (list : List Variable) → Few IsVariable 97 list → Few IsVariable 97 (of_kind kind list)
kind_few (Some Indexed) list h = (All-nil IsVariable, omega arith)
kind_few _ list h = h

variables_readable : (arguments : VariablesArguments) (machine : Debugged) (found : Result Target Refusal)
    → IfOk (variables_by arguments (variables_in machine found)) IsReadable
variables_readable arguments machine found =
    elim found as (λ found. IfOk (variables_by arguments (variables_in machine found)) IsReadable) [
      | Ok Registers ↦ of (registers machine.hart) (registers_few machine.hart)
      | Ok Stack ↦ of (stack_words machine.hart machine.memory) (words_few machine.hart machine.memory)
      | _ ↦ tt
    ] where
      of : (list : List Variable) → Few IsVariable 97 list → IfOk (variables_by arguments (Ok list)) IsReadable
      of list h =
          listed variable.texts most_of_variable 3000 97 (asked_of arguments list) refl
          (part_few IsVariable 97 arguments.start arguments.count (of_kind arguments.filter list) (kind_few arguments.filter list h))

-- ---- instructions

word_small : (memory : List ℕ) (found : Option ℕ) → are_bytes memory ≡ true → IfSome (word_in memory found) (λ w. w < 2 ^ 32)
word_small memory None h = tt
word_small memory (Some address) h =
    elim (fault_at memory 4 address 4) as
    (λ fault. IfSome (result_ok (unless_fault fault (little_endian (bytes_at memory address 4)))) (λ w. w < 2 ^ 32))
    [ Some fault ↦ tt | None ↦ of_bytes (drop (address - first_address) memory) (some_dropped memory (address - first_address) h) ]

abbrev IsEntry : Instruction → Type 0
IsEntry = Fits entry_form.texts most_of_instruction 3000

entry_fits : (address : ℕ) (found : Option ℕ) → IfSome found (λ w. w < 2 ^ 32) → IsEntry (entry_by address found)
entry_fits address None h = (tt, omega arith)
entry_fits address (Some w) h = let text = disassembly_plain w address h in ((utf8_of text, tt), omega (arith, written_of text))

places_few : (memory : List ℕ) (place : ℤ) (count : ℕ) → are_bytes memory ≡ true → Few IsEntry count (entries_from memory place count)
places_few memory place zero h = (All-nil IsEntry, omega arith)
places_few memory place (suc count) h =
    let rest = places_few memory (place +ℤ pos 4) count h in
    let first = entry_fits (wrapped place) (word_in memory (address_of place)) (word_small memory (address_of place) h) in
    (All-cons IsEntry (entry memory place) (entries_from memory (place +ℤ pos 4) count) first rest.0, omega (arith, rest.1))

disassembly_readable : (memory : List ℕ) (arguments : DisassembleArguments) (reference : Option ℕ) → are_bytes memory ≡ true
    → IfOk (disassembled memory arguments.instruction_count (places_by arguments reference)) IsReadable
disassembly_readable memory arguments None h = tt
disassembly_readable memory arguments (Some reference) h =
    let count = arguments.instruction_count in
    let place = first_place reference arguments.offset arguments.instruction_offset in
    let entries = places_few memory place count h in
    if_keeps (λ (found : Result ℤ Refusal). IfOk (disassembled memory count found) IsReadable) (ltb 4096 count) (Err TooMuch) (Ok place)
    (λ _. tt)
    (λ e. listed entry_form.texts most_of_instruction 3000 4096 (entries_from memory place count) refl
    (entries.0, omega (arith, entries.1, ltb-false 4096 count e)))

-- ---- bytes

read_readable : (memory : List ℕ) (count : ℕ) (found : Result ℕ Refusal) → count ≤ 65536 → IfOk (read memory count found) IsReadable
read_readable memory count (Err refusal) few = tt
read_readable memory count (Ok address) few =
    let missing : ℕ = count - length (bytes_from memory count address) in (
      if_keeps (λ (o : Option ℕ). AreTexts (texts_if whole.texts o ++ [])) (eqb missing 0) None (Some missing) (λ _. tt) (λ _. tt),
      omega (arith, length-take (min count (4294967296 - address)) (drop (address - first_address) memory), few),
    )

bytes_readable : (memory : List ℕ) (arguments : ReadMemoryArguments) (reference : Option ℕ)
    → IfOk (read memory arguments.count (start_by memory arguments reference)) IsReadable
bytes_readable memory arguments None = tt
bytes_readable memory arguments (Some reference) =
    let found = start_at memory arguments.count (offset_by arguments.offset (Some reference)) in
    if_keeps (λ (start : Result ℕ Refusal). IfOk (read memory arguments.count start) IsReadable) (ltb 65536 arguments.count) (Err TooMuch) found (λ _. tt)
    (λ e. read_readable memory arguments.count found (ltb-false 65536 arguments.count e))

-- ---- bodies of one size, without texts

pub settings_are_readable : (arguments : SetVariableArguments) (machine : Debugged) (issued : Numbers)
    → IfOk (set_variable arguments machine issued) (λ setting. IsReadable setting.body)
settings_are_readable arguments machine issued = grind arith

pub writings_are_readable : (arguments : WriteMemoryArguments) (memory : List ℕ)
    → IfOk (write_memory arguments memory) (λ writing. IsReadable writing.body)
writings_are_readable arguments memory = grind arith

-- ---- each request that looks into a machine

pub looks_are_readable : (c : Command) (machine : Debugged) (table : Table) (issued : Numbers) (view : View) → HoldsWords machine
    → All IsShortLabel table.labels → IsShortText view.path → IfOk (look_answer c machine table issued view).result IsReadable
looks_are_readable (command.StackTrace arguments) machine table issued view holds labels path =
    let places : List ℕ = addresses machine in
    let given : Numbers = with_targets issued (frames_given arguments machine) in
    let Q : ℕ → Type 0 = λ index. IsFrame (frame_at table view given places index) in
    let small = All-cons (λ (address : ℕ). address < 2 ^ 32) machine.hart.pc machine.calls.calls holds.pc holds.calls in
    let all : Few Q 257 (range_with_len 0 (length places)) = (
      each_so Q (range_with_len 0 (length places)) (λ index. frame_fits table view given places index labels path small),
      omega (arith, length_range (length places) 0, holds.few),
    ) in
    let some = part_few Q 257 arguments.start_frame arguments.levels (range_with_len 0 (length places)) all in
    let indices_given : List ℕ = indices arguments (length places) in
    listed stack_frame.texts most_of_frame 13640000 257 (map (frame_at table view given places) indices_given) refl (
      All-map IsFrame (frame_at table view given places) indices_given some.0,
      omega (arith, length-map indices_given (frame_at table view given places), some.1),
    )
looks_are_readable (command.Scopes arguments) machine table issued view holds labels path =
    grind arith
looks_are_readable (command.Variables arguments) machine table issued view holds labels path =
    variables_readable arguments machine (target_of issued arguments.variables_reference)
looks_are_readable (command.Evaluate arguments) machine table issued view holds labels path =
    grind arith
looks_are_readable (command.Disassemble arguments) machine table issued view holds labels path =
    disassembly_readable machine.memory arguments (word_of arguments.memory_reference) (all_bytes machine.memory holds.memory)
looks_are_readable (command.ReadMemory arguments) machine table issued view holds labels path =
    bytes_readable machine.memory arguments (word_of arguments.memory_reference)
looks_are_readable other machine table issued view holds labels path = (tt, omega arith)
