-- Answers of variables, values and writes can be sent: their numbers are in their ranges.
use Rattle.answers.proofs.Common.{[], All, All-set, are_bytes, arith, Bool, bytes_at, can_begin, codes, cond, counter, Debugged, Done, drop, eqb, Err, expression_of, false, fault_at, first_address, Frame, frame_refusal, Hart, HoldsWords, IfOk, IsOutcomeOf, leb, length, length-drop, length-take, List, list_all, little_endian, lt-ltb, ltb, map, min, name_answer, nat_tests, None, Numbers, numbers as register_numbers, numeral, NumeralError, offset_by, Ok, Option, OutsideMemory, part, prefixed, range_with_len, refl, Refusal, register, Registers, Result, result_ok, set_in, setting_of, SettingsAreProper, SettingsKeepWords, slice_index, Some, Stack, start_at, subst, suc, take, take_while, Target, target_of, TooMuch, Tree, true, with_register, word_by, word_of, WritingsAreProper, WritingsFit, zero, ℕ, ◌*◌, ◌++◌, ◌+◌, ◌-◌, ◌<◌, ◌∷◌, ◌≡◌, ◌≤◌}
use Rattle.breakpoints.specs.Values.{value_of as value_in}
use Rattle.breakpoints.specs.declared.error.ExprFault.{ExprFault}
use Rattle.protocol.specs.declared.evaluate.EvaluateArguments.{EvaluateArguments}
use Rattle.protocol.specs.declared.filter.Filter.{Filter}
use Rattle.protocol.specs.declared.filter.Filter.TheVariants.{Indexed, Named}
use Rattle.protocol.specs.declared.variables.VariablesArguments.{VariablesArguments}
use Rattle.protocol.specs.declared.write_memory.WriteMemoryArguments.{WriteMemoryArguments}
use Rattle.message_parts.specs.Variables.{variable}
use Rattle.message_parts.specs.declared.variables.Variable.{Variable}
use Rattle.rv32i.specs.Machine.{difference, sum}
use Rattle.variables.specs.Registers.{registers}
use Rattle.variables.specs.Stack.{has_word, stack_words, word}
use Rattle.variables.specs.Values.{if_signed, negated, value_of}
use Rattle.answers.specs.Evaluate.{evaluate, if_valued, unless_refused, valued}
use Rattle.answers.specs.Variables.{asked_of, body_by, of_kind, variables, variables_in}
use Rattle.answers.specs.WriteMemory.{fitting, start_by, writing_of, written, written_at}
use Rattle.answers.proofs.MemoryBytes.{begins_inside}
use Rattle.answers.proofs.ProperLooks.{both, first_of, of_bytes, second_of, some_dropped}
use Rattle.answers.proofs.Words.{all_bytes, expression_small, numeral_small, small_at}

-- ---- variables

abbrev AreIn : List Variable → Type 0
AreIn list = list_all variable.is_in list ≡ true

is_in : (name : List ℕ) (value : ℕ) → value < 4294967296 → variable.is_in (record { name = name; value = value }) ≡ true
is_in name value h = both (ltb value 4294967296) true (lt-ltb value 4294967296 h) refl

taken_in : (n : ℕ) (l : List Variable) → AreIn l → AreIn (take n l)
taken_in zero l h = refl
taken_in (suc n) [] h = refl
taken_in (suc n) (v ∷ l) h =
    both (variable.is_in v) (list_all variable.is_in (take n l)) (first_of (variable.is_in v) (list_all variable.is_in l) h)
    (taken_in n l (second_of (variable.is_in v) (list_all variable.is_in l) h))

dropped_in : (n : ℕ) (l : List Variable) → AreIn l → AreIn (drop n l)
dropped_in zero l h = h
dropped_in (suc n) [] h = refl
dropped_in (suc n) (v ∷ l) h = dropped_in n l (second_of (variable.is_in v) (list_all variable.is_in l) h)

part_in : (start : ℕ) (count : Option ℕ) (l : List Variable) → AreIn l → AreIn (part start count l)
part_in start None l h = dropped_in start l h
part_in start (Some count) l h = by (eqb count 0) where
  by : (b : Bool) → AreIn (cond b (drop start l) (take count (drop start l)))
  by true = dropped_in start l h
  by false = taken_in count (drop start l) (dropped_in start l h)

kind_in : (filter : Option Filter) (l : List Variable) → AreIn l → AreIn (of_kind filter l)
kind_in None l h = h
kind_in (Some Named) l h = h
kind_in (Some Indexed) l h = refl

some_registers : (hart : Hart) (some : List ℕ) → hart.pc < 4294967296 → All (λ value. value < 4294967296) hart.x
    → AreIn (map (register hart) some ++ counter hart ∷ [])
some_registers hart [] pc x = both (variable.is_in (counter hart)) true (is_in (codes "pc") hart.pc pc) refl
some_registers hart (number ∷ some) pc x =
    both (variable.is_in (register hart number)) _
    (both (ltb (register hart number).value 4294967296) true
    (lt-ltb (register hart number).value 4294967296 (small_at hart.x number x)) refl) (some_registers hart some pc x)

registers_in : (hart : Hart) → hart.pc < 4294967296 → All (λ value. value < 4294967296) hart.x → AreIn (registers hart)
unfolding registers
registers_in hart pc x = some_registers hart register_numbers pc x

some_words : (memory : List ℕ) (sp : ℕ) (some : List ℕ) → are_bytes memory ≡ true → AreIn (map (word memory sp) some)
some_words memory sp [] bytes = refl
some_words memory sp (offset ∷ some) bytes =
    let value : ℕ = little_endian (bytes_at memory (sum sp offset) 4) in
    let small : value < 4294967296 = of_bytes (drop (sum sp offset - first_address) memory)
    (some_dropped memory (sum sp offset - first_address) bytes) in
    both (variable.is_in (word memory sp offset)) _ (both (ltb value 4294967296) true (lt-ltb value 4294967296 small) refl)
    (some_words memory sp some bytes)

words_in : (hart : Hart) (memory : List ℕ) → are_bytes memory ≡ true → AreIn (stack_words hart memory)
unfolding stack_words
words_in hart memory bytes =
    let sp : ℕ = slice_index hart.x 2 in
    some_words memory sp (take_while (has_word memory sp) (map (λ number. 4 * number) (range_with_len 0 64))) bytes

body_in : (arguments : VariablesArguments) (found : Result (List Variable) Refusal) → IfOk found AreIn
    → IfOk (body_by arguments found) (λ body. IsOutcomeOf (codes "variables") (Done body))
body_in arguments (Err refusal) h = tt
body_in arguments (Ok list) h = (
  refl,
  both (list_all variable.is_in (asked_of arguments list)) true
      (part_in arguments.start arguments.count (of_kind arguments.filter list) (kind_in arguments.filter list h)) refl,
)

scope_in : (machine : Debugged) (found : Result Target Refusal) → HoldsWords machine → IfOk (variables_in machine found) AreIn
scope_in machine (Err refusal) holds = tt
scope_in machine (Ok (Frame index)) holds = tt
scope_in machine (Ok Registers) holds = registers_in machine.hart holds.pc holds.registers
scope_in machine (Ok Stack) holds = words_in machine.hart machine.memory (all_bytes machine.memory holds.memory)

pub variables_are_proper : (arguments : VariablesArguments) (machine : Debugged) (numbers : Numbers) → HoldsWords machine
    → IfOk (variables arguments machine numbers) (λ body. IsOutcomeOf (codes "variables") (Done body))
variables_are_proper arguments machine numbers holds =
    let found = target_of numbers arguments.variables_reference in
    body_in arguments (variables_in machine found) (scope_in machine found holds)

-- ---- the value of an expression

valued_in : (found : Result ℕ ExprFault) → IfOk found (λ v. v < 4294967296)
    → IfOk (if_valued found) (λ body. IsOutcomeOf (codes "evaluate") (Done body))
valued_in (Err fault) h = tt
valued_in (Ok value) h = (refl, both (ltb value 4294967296) true (lt-ltb value 4294967296 h) refl)

expression_in : (text : List ℕ) (found : Option Tree) (machine : Debugged) → expression_of text ≡ found → HoldsWords machine
    → IfOk (valued found machine.hart machine.memory) (λ body. IsOutcomeOf (codes "evaluate") (Done body))
expression_in text None machine e holds = tt
expression_in text (Some tree) machine e holds =
    valued_in (value_in tree machine.hart machine.memory)
    (expression_small text tree machine.hart machine.memory e holds.pc holds.registers (all_bytes machine.memory holds.memory))

pub values_are_proper : (arguments : EvaluateArguments) (machine : Debugged) (numbers : Numbers) → HoldsWords machine
    → IfOk (evaluate arguments machine numbers) (λ body. IsOutcomeOf (codes "evaluate") (Done body))
values_are_proper arguments machine numbers holds = by (frame_refusal numbers arguments.frame_id) where
  by : (refusal : Option Refusal)
      → IfOk (unless_refused refusal (valued (expression_of arguments.expression) machine.hart machine.memory)) (λ body. IsOutcomeOf (codes "evaluate") (Done body))
  by (Some refusal) = tt
  by None = expression_in arguments.expression (expression_of arguments.expression) machine refl holds

-- ---- a variable that is set

if_numeral : (radix : ℕ) (digits : List ℕ) (n : ℕ) → result_ok (numeral radix digits) ≡ Some n → n < 4294967296
if_numeral radix digits n e = by (numeral radix digits) refl e where
  by : (found : Result ℕ NumeralError) → numeral radix digits ≡ found → result_ok found ≡ Some n → n < 4294967296
  by (Err error) is f = absurd (none f) where
    none : None ≡ Some n → ⊥
    none f = cc
  by (Ok m) is f = let same : m ≡ n = cc in let small : m < 4294967296 = numeral_small radix digits m is in omega (arith, same, small)

negated_small : (found : Option ℕ) (n : ℕ) → if_signed found ≡ Some n → n < 4294967296
negated_small None n e = absurd (none e) where
  none : None ≡ Some n → ⊥
  none e = cc
negated_small (Some m) n e = by (leb m 2147483648) e where
  by : (b : Bool) → cond b (Some (difference 0 m)) None ≡ Some n → n < 4294967296
  by true f = let same : difference 0 m ≡ n = cc in let small : difference 0 m < 4294967296 = omega arith in omega (arith, same, small)
  by false f = absurd (none f) where
    none : None ≡ Some n → ⊥
    none f = cc

word_small : (text : List ℕ) (found : Option (List ℕ)) (n : ℕ) → word_by text found ≡ Some n → n < 4294967296
word_small text None n e = if_numeral 10 text n e
word_small text (Some digits) n e = by (leb (length digits) 8) e where
  by : (b : Bool) → cond b (result_ok (numeral 16 digits)) None ≡ Some n → n < 4294967296
  by true f = if_numeral 16 digits n f
  by false f = absurd (none f) where
    none : None ≡ Some n → ⊥
    none f = cc

value_small : (text : List ℕ) (n : ℕ) → value_of text ≡ Some n → n < 4294967296
value_small [] n e = absurd (none e) where
  none : None ≡ Some n → ⊥
  none e = cc
value_small (sign ∷ digits) n e = by (eqb sign 45) e where
  by : (b : Bool) → cond b (negated digits) (word_by (sign ∷ digits) (prefixed (sign ∷ digits))) ≡ Some n → n < 4294967296
  by true f = negated_small (result_ok (numeral 10 digits)) n f
  by false f = word_small (sign ∷ digits) (prefixed (sign ∷ digits)) n f

set_proper : (hart : Hart) (named : Result ℕ Refusal) (found : Option ℕ) → ((n : ℕ) → found ≡ Some n → n < 4294967296)
    → IfOk (setting_of hart named found) (λ setting. IsOutcomeOf (codes "setVariable") (Done setting.body))
set_proper hart (Err refusal) found h = tt
set_proper hart (Ok number) None h = tt
set_proper hart (Ok number) (Some value) h = (refl, both (ltb value 4294967296) true (lt-ltb value 4294967296 (h value refl)) refl)

pub settings_are_proper : SettingsAreProper
settings_are_proper arguments machine numbers = by (target_of numbers arguments.variables_reference) where
  by : (found : Result Target Refusal)
      → IfOk (set_in arguments machine found) (λ setting. IsOutcomeOf (codes "setVariable") (Done setting.body))
  by (Err refusal) = tt
  by (Ok (Frame index)) = tt
  by (Ok Stack) = tt
  by (Ok Registers) =
      set_proper machine.hart (name_answer arguments.name) (value_of arguments.value) (λ n e. value_small arguments.value n e)

kept_words : (machine : Debugged) (number value : ℕ) → HoldsWords machine → value < 4294967296
    → HoldsWords (record machine { hart = with_register machine.hart number value })
kept_words machine zero value holds small = holds
kept_words machine (suc number) value holds small = record {
  pc = holds.pc;
  registers = All-set (λ (v : ℕ). v < 4294967296) machine.hart.x (suc number) value small holds.registers;
  memory = holds.memory;
  calls = holds.calls;
  few = holds.few;
}

set_keeps : (machine : Debugged) (named : Result ℕ Refusal) (found : Option ℕ) → HoldsWords machine
    → ((n : ℕ) → found ≡ Some n → n < 4294967296)
    → IfOk (setting_of machine.hart named found) (λ setting. HoldsWords (record machine { hart = setting.hart }))
set_keeps machine (Err refusal) found holds h = tt
set_keeps machine (Ok number) None holds h = tt
set_keeps machine (Ok number) (Some value) holds h = kept_words machine number value holds (h value refl)

pub settings_keep_words : SettingsKeepWords
settings_keep_words arguments machine numbers holds = by (target_of numbers arguments.variables_reference) where
  by : (found : Result Target Refusal)
      → IfOk (set_in arguments machine found) (λ setting. HoldsWords (record machine { hart = setting.hart }))
  by (Err refusal) = tt
  by (Ok (Frame index)) = tt
  by (Ok Stack) = tt
  by (Ok Registers) =
      set_keeps machine (name_answer arguments.name) (value_of arguments.value) holds (λ n e. value_small arguments.value n e)

-- ---- bytes that are written

fitting_short : (memory : List ℕ) (count address : ℕ) → fitting memory count address ≤ count
fitting_short memory count address =
    let taken = length-take (min count (4294967296 - address)) (drop (address - first_address) memory) in omega (arith, taken)

fitting_within : (memory : List ℕ) (count address : ℕ) → fitting memory count address ≤ length memory - (address - first_address)
fitting_within memory count address =
    let taken = length-take (min count (4294967296 - address)) (drop (address - first_address) memory) in
    let left = length-drop (address - first_address) memory in
    omega (arith, taken, left)

fits : (memory : List ℕ) (count address : ℕ) → can_begin memory count address ≡ true
    → fault_at memory 1 address (fitting memory count address) ≡ None
fits memory count address begins =
    by_count (fitting memory count address) (fitting_short memory count address) (fitting_within memory count address) where
      by_count : (n : ℕ) → n ≤ count → n ≤ length memory - (address - first_address) → fault_at memory 1 address n ≡ None
      by_count zero short within = grind (arith, nat_tests)
      by_count (suc n) short within =
          let low : first_address ≤ address = begins_inside memory count address 0 begins (omega (arith, short)) in
          let end : address + suc n ≤ first_address + length memory = omega (arith, low, within) in
          grind (arith, nat_tests)

written_fits : (memory : List ℕ) (partial : Bool) (count address : ℕ) → can_begin memory count address ≡ true
    → IfOk (written_at memory partial count address) (λ writing. (writing.count ≤ count) × (fault_at memory 1 writing.address writing.count ≡ None))
written_fits memory partial count address begins = by (eqb (fitting memory count address) count) refl partial where
  by : (all : Bool) → eqb (fitting memory count address) count ≡ all → (partial : Bool)
      → IfOk (cond all (Ok (writing_of address count)) (cond partial (Ok (writing_of address (fitting memory count address))) (Err OutsideMemory))) (λ writing. (writing.count ≤ count) × (fault_at memory 1 writing.address writing.count ≡ None))
  by true is partial =
      let same : fitting memory count address ≡ count = grind (arith, nat_tests) in
      (omega arith, subst (λ (n : ℕ). fault_at memory 1 address n ≡ None) same (fits memory count address begins))
  by false is true = (fitting_short memory count address, fits memory count address begins)
  by false is false = tt

written_in : (memory : List ℕ) (partial : Bool) (count address : ℕ) → count ≤ 65536
    → IfOk (written_at memory partial count address) (λ writing. IsOutcomeOf (codes "writeMemory") (Done writing.body))
written_in memory partial count address few = by (eqb (fitting memory count address) count) partial where
  one : (n : ℕ) → n ≤ 65536 → IsOutcomeOf (codes "writeMemory") (Done (writing_of address n).body)
  one n h =
      let small : n < 4294967296 = omega (arith, h) in
      (refl, both (ltb n 4294967296) true (lt-ltb n 4294967296 small) refl)

  by : (all : Bool) → (partial : Bool)
      → IfOk (cond all (Ok (writing_of address count)) (cond partial (Ok (writing_of address (fitting memory count address))) (Err OutsideMemory))) (λ writing. IsOutcomeOf (codes "writeMemory") (Done writing.body))
  by true partial = one count few
  by false true =
      let short : fitting memory count address ≤ count = fitting_short memory count address in
      one (fitting memory count address) (omega (arith, few, short))
  by false false = tt

-- where writing begins, and the bytes are not too many
abbrev CanWrite : List ℕ → ℕ → Result ℕ Refusal → Type 0
CanWrite memory count found = IfOk found (λ address. (count ≤ 65536) × (can_begin memory count address ≡ true))

start_in : (memory : List ℕ) (count : ℕ) (found : Option ℕ) → count ≤ 65536 → CanWrite memory count (start_at memory count found)
start_in memory count None few = tt
start_in memory count (Some address) few = by (can_begin memory count address) refl where
  by : (b : Bool) → can_begin memory count address ≡ b → CanWrite memory count (cond b (Ok address) (Err OutsideMemory))
  by true is = (few, is)
  by false is = tt

begins : (memory : List ℕ) (arguments : WriteMemoryArguments) (reference : Option ℕ)
    → CanWrite memory (length arguments.bytes) (start_by memory arguments reference)
begins memory arguments None = tt
begins memory arguments (Some reference) = by (ltb 65536 (length arguments.bytes)) refl where
  by : (b : Bool) → ltb 65536 (length arguments.bytes) ≡ b
      → CanWrite memory (length arguments.bytes) (cond b (Err TooMuch) (start_at memory (length arguments.bytes) (offset_by arguments.offset (Some reference))))
  by true is = tt
  by false is = start_in memory (length arguments.bytes) (offset_by arguments.offset (Some reference)) (grind (arith, nat_tests))

pub writings_are_proper : WritingsAreProper
writings_are_proper arguments memory =
    by (start_by memory arguments (word_of arguments.memory_reference)) (begins memory arguments (word_of arguments.memory_reference)) where
      by : (found : Result ℕ Refusal) → CanWrite memory (length arguments.bytes) found
          → IfOk (written memory arguments found) (λ writing. IsOutcomeOf (codes "writeMemory") (Done writing.body))
      by (Err refusal) h = tt
      by (Ok address) h = written_in memory arguments.allow_partial (length arguments.bytes) address h.0

pub writings_fit : WritingsFit
writings_fit arguments memory =
    by (start_by memory arguments (word_of arguments.memory_reference)) (begins memory arguments (word_of arguments.memory_reference)) where
      by : (found : Result ℕ Refusal) → CanWrite memory (length arguments.bytes) found
          → IfOk (written memory arguments found) (λ writing. (writing.count ≤ length arguments.bytes) × (fault_at memory 1 writing.address writing.count ≡ None))
      by (Err refusal) h = tt
      by (Ok address) h = written_fits memory arguments.allow_partial (length arguments.bytes) address h.1
