-- Answers can be sent: their numbers are in their ranges.
use Rattle.answers.proofs.Common.{[], address_in, address_of, All, All-head, All-tail, All-weaker, and_parts, Answer, AnswersAreProper, ap, arith, bind, Bool, cond, Conditions, conditions_of, entries_of, Err, false, find, first_address, followed_by, FunctionBreakpoint, IfOk, InstructionBreakpoint, IsNarrow, label_address, leb, length, line_in, line_in_editor, line_in_image, List, list_all, list_of, lt-ltb, ltb, ltb-true, negsuc, next_after, None, NumbersFit, offset_by, Ok, Option, option_map, pos, Problem, refl, Result, Row, Some, SourceBreakpoint, start_of, subst, Table, TooMuch, trimmed, true, View, word_of, ℕ, ℤ, ◌%◌, ◌&&◌, ◌+ℤ◌, ◌+◌, ◌<◌, ◌==◌, ◌∷◌, ◌≡◌, ◌≤◌}
use Rattle.protocol.specs.declared.command.Command.TheVariants as command
use Rattle.message_parts.specs.SetBreakpoints.{source_breakpoint}
use Rattle.message_parts.specs.SetInstructionBreakpoints.{instruction_breakpoint}
use Rattle.replies.specs.declared.response.ResponseBody.{ResponseBody}
use Rattle.answers.specs.SetBreakpoints as source
use Rattle.answers.specs.SetFunctionBreakpoints as function
use Rattle.answers.specs.SetInstructionBreakpoints as instruction
use Rattle.answers.specs.declared.problem.Problem.TheVariants.{BadAddress, UnknownSource}
use Rattle.answers.proofs.Settable.{one_value}

both : (x y : Bool) → x ≡ true → y ≡ true → (x && y) ≡ true
both true y a b = b
both false y a b = cc

-- ---- entries of lines

line_set : (id address line : ℕ) → id < 4294967296 → address < 4294967296 → line < 4294967296
    → (ltb id 4294967296 && (ltb address 4294967296 && (ltb line 4294967296 && true))) ≡ true
line_set id address line a b c =
    both (ltb id 4294967296) _ (lt-ltb id 4294967296 a)
    (both (ltb address 4294967296) _ (lt-ltb address 4294967296 b) (both (ltb line 4294967296) true (lt-ltb line 4294967296 c) refl))

lines_proper : (judged : SourceBreakpoint → Result source.Place Problem) (base next : ℕ) (asked : List SourceBreakpoint)
    → ((one : SourceBreakpoint) (place : source.Place) → judged one ≡ Ok place → (place.address < 4294967296) × (place.line < 4294967296))
    → All (λ b. b.line < 4294967296) asked → next + length (list_of judged source.wanted next asked) ≤ 4294967296
    → list_all source_breakpoint.is_in (entries_of judged (source.entry base) next asked) ≡ true
lines_proper judged base next [] narrow lines room = refl
lines_proper judged base next (one ∷ others) narrow lines room =
    go (judged one) refl room
    (λ n r. lines_proper judged base n others narrow (All-tail (λ b. b.line < 4294967296) one others lines) r) where
      go : (found : Result source.Place Problem) → judged one ≡ found
          → next + length (followed_by source.wanted next found (list_of judged source.wanted (next_after next found) others)) ≤ 4294967296
          → ((n : ℕ) → n + length (list_of judged source.wanted n others) ≤ 4294967296 → list_all source_breakpoint.is_in (entries_of judged (source.entry base) n others) ≡ true)
          → (source_breakpoint.is_in (source.entry base next one found) && list_all source_breakpoint.is_in (entries_of judged (source.entry base) (next_after next found) others)) ≡ true
      go (Ok place) e room on =
          let small = narrow one place e in
          both (source_breakpoint.is_in (source.verified base next place)) _
          (line_set next place.address (line_in_editor base place.line) (omega (arith, room)) small.0 (omega (arith, small.1)))
          (on (next + 1) (omega (arith, room)))
      go (Err problem) e room on =
          let first : one.line < 4294967296 = All-head (λ b. b.line < 4294967296) one others lines in
          both (source_breakpoint.is_in (source.unverified one.line problem)) _
          (both (ltb one.line 4294967296) true (lt-ltb one.line 4294967296 first) refl) (on next room)

bound : (p : Row → Bool) (rows : List Row) (found : ℕ × ℕ) → All (λ row. line_in row < 4294967296) rows
    → All (λ row. start_of row < 4294967296) rows → option_map (λ row. (line_in row, start_of row)) (find p rows) ≡ Some found
    → (found.1 < 4294967296) × (found.0 < 4294967296)
bound p [] found lines places e = cc
bound p (row ∷ rows) found lines places e =
    let line : line_in row < 4294967296 = All-head (λ r. line_in r < 4294967296) row rows lines in
    let place : start_of row < 4294967296 = All-head (λ r. start_of r < 4294967296) row rows places in
    let P : Bool → Type 0 = λ v. option_map (λ r. (line_in r, start_of r)) (cond v (Some row) (find p rows)) ≡ Some found
    → (found.1 < 4294967296) × (found.0 < 4294967296) in
    let go : P (p row) = elim (p row) as P [
      | true ↦ λ f. here (line_in row, start_of row) found line place f
      | false ↦ λ f. bound p rows found (All-tail (λ r. line_in r < 4294967296) row rows lines)
          (All-tail (λ r. start_of r < 4294967296) row rows places) f
    ] in go e
  where
    here : (made found : ℕ × ℕ) → made.0 < 4294967296 → made.1 < 4294967296 → Some made ≡ Some found
        → (found.1 < 4294967296) × (found.0 < 4294967296)
    here made found a b f =
        let same : made ≡ found = cc in (subst (λ (x : ℕ × ℕ). x.1 < 4294967296) same b, subst (λ (x : ℕ × ℕ). x.0 < 4294967296) same a)

found_there : (conditions : Result Conditions Problem) (found : Option (ℕ × ℕ)) (log : Option (List ℕ)) (place : source.Place)
    → source.placed conditions found log ≡ Ok place → found ≡ Some (place.line, place.address)
found_there (Err problem) found log place e = cc
found_there (Ok conditions) None log place e = cc
found_there (Ok conditions) (Some found) log place e =
    ap (λ (x : source.Place). Some (x.line, x.address))
    (one_value (Ok (record { line = found.0; address = found.1; conditions = conditions; log = log }))
    (record { line = found.0; address = found.1; conditions = conditions; log = log }) place refl e)

source_narrow : (own : Bool) (table : Table) (base : ℕ) → IsNarrow table → (one : SourceBreakpoint) (place : source.Place)
    → source.judged own table base one ≡ Ok place → (place.address < 4294967296) × (place.line < 4294967296)
source_narrow true table base narrow one place e =
    bound _ table.rows (place.line, place.address) narrow.lines narrow.places
    (found_there (conditions_of one.condition one.hit_condition) (bind table (line_in_image base one.line))
    (source.written one.log_message) place e)
source_narrow false table base narrow one place e = cc

-- ---- entries of instructions

instruction_set : (id address : ℕ) → id < 4294967296 → address < 4294967296 → (ltb id 4294967296 && (ltb address 4294967296 && true)) ≡ true
instruction_set id address a b =
    both (ltb id 4294967296) _ (lt-ltb id 4294967296 a) (both (ltb address 4294967296) true (lt-ltb address 4294967296 b) refl)

instructions_proper : {A : Type 0} (judged : A → Result instruction.Place Problem) (next : ℕ) (asked : List A)
    → ((one : A) (place : instruction.Place) → judged one ≡ Ok place → place.address < 4294967296)
    → next + length (list_of judged instruction.wanted next asked) ≤ 4294967296
    → list_all instruction_breakpoint.is_in (entries_of judged instruction.entry next asked) ≡ true
instructions_proper judged next [] narrow room = refl
instructions_proper {A} judged next (one ∷ others) narrow room =
    go (judged one) refl room (λ n r. instructions_proper judged n others narrow r) where
      go : (found : Result instruction.Place Problem) → judged one ≡ found
          → next + length (followed_by instruction.wanted next found (list_of judged instruction.wanted (next_after next found) others)) ≤ 4294967296
          → ((n : ℕ) → n + length (list_of judged instruction.wanted n others) ≤ 4294967296 → list_all instruction_breakpoint.is_in (entries_of judged instruction.entry n others) ≡ true)
          → (instruction_breakpoint.is_in (instruction.entry next one found) && list_all instruction_breakpoint.is_in (entries_of judged instruction.entry (next_after next found) others)) ≡ true
      go (Ok place) e room on =
          both (instruction_breakpoint.is_in (instruction.verified next place)) _
          (instruction_set next place.address (omega (arith, room)) (narrow one place e)) (on (next + 1) (omega (arith, room)))
      go (Err problem) e room on = both (instruction_breakpoint.is_in (instruction.unverified problem)) _ refl (on next room)

address_small : (z : ℤ) (n : ℕ) → address_of z ≡ Some n → n < 4294967296
address_small (negsuc m) n e = cc
address_small (pos m) n e =
    let P : Bool → Type 0 = λ v. ltb m 4294967296 ≡ v → cond v (Some m) None ≡ Some n → n < 4294967296 in
    let go : P (ltb m 4294967296) = elim (ltb m 4294967296) as P [
      | true ↦ λ v f. same m n f (ltb-true m 4294967296 v)
      | false ↦ λ v f. absurd (none n f)
    ] in go refl e
  where
    same : (m n : ℕ) → Some m ≡ Some n → m < 4294967296 → n < 4294967296
    same m n f h = let one : m ≡ n = cc in omega (arith, one, h)

    none : (n : ℕ) → None ≡ Some n → ⊥
    none n f = cc

pub offset_small : (offset : ℤ) (reference : Option ℕ) (n : ℕ) → offset_by offset reference ≡ Some n → n < 4294967296
offset_small offset None n e = cc
offset_small offset (Some m) n e = address_small (pos m +ℤ offset) n e

kept_small : (size : ℕ) (found : Option ℕ) (n : ℕ) → instruction.if_instructions size found ≡ Some n → found ≡ Some n
kept_small size None n e = e
kept_small size (Some m) n e =
    let P : Bool → Type 0 = λ v. cond v (Some m) None ≡ Some n → Some m ≡ Some n in
    let go : P (instruction.is_instructions size m) = elim (instruction.is_instructions size m) as P [ true ↦ λ f. f | false ↦ λ f. cc ] in
    go e

instruction_there : (conditions : Result Conditions Problem) (found : Option ℕ) (place : instruction.Place)
    → instruction.placed conditions found ≡ Ok place → found ≡ Some place.address
instruction_there (Err problem) found place e = cc
instruction_there (Ok conditions) None place e = cc
instruction_there (Ok conditions) (Some found) place e =
    ap (λ (x : instruction.Place). Some x.address)
    (one_value (Ok (record { address = found; conditions = conditions }))
    (record { address = found; conditions = conditions }) place refl e)

instruction_narrow : (size : ℕ) (one : InstructionBreakpoint) (place : instruction.Place) → instruction.judged size one ≡ Ok place
    → place.address < 4294967296
instruction_narrow size one place e =
    let there = instruction_there (conditions_of one.condition one.hit_condition) (instruction.asked_address size one) place e in
    offset_small one.offset (word_of one.instruction_reference) place.address
    (kept_small size (address_in one.instruction_reference one.offset) place.address there)

-- ---- entries of functions

-- an address that an instruction can be at lies below the end of memory
inside : (size address : ℕ) → instruction.is_instructions size address ≡ true → address < first_address + size
inside size address e =
    let others = and_parts (leb first_address address) (ltb address (first_address + size) && (address % 4 == 0)) e in
    ltb-true address (first_address + size) (and_parts (ltb address (first_address + size)) (address % 4 == 0) others.1).0

function_inside : (size : ℕ) (conditions : Result Conditions Problem) (found : Option ℕ) (place : instruction.Place)
    → function.placed size conditions found ≡ Ok place → place.address < first_address + size
function_inside size (Err problem) found place e = cc
function_inside size (Ok conditions) None place e = cc
function_inside size (Ok conditions) (Some address) place e =
    let made : instruction.Place = record { address = address; conditions = conditions } in
    let P : Bool → Type 0 = λ v. instruction.is_instructions size address ≡ v → cond v (Ok made) (Err BadAddress) ≡ Ok place
    → place.address < first_address + size in
    let go : P (instruction.is_instructions size address) = elim (instruction.is_instructions size address) as P [
      | true ↦ λ v f. subst (λ (x : instruction.Place). x.address < first_address + size) (one_value (Ok made) made place refl f)
          (inside size address v)
      | false ↦ λ v f. cc
    ] in go refl e

function_narrow : (table : Table) (size : ℕ) → first_address + size < 4294967296 → (one : FunctionBreakpoint) (place : instruction.Place)
    → function.judged table size one ≡ Ok place → place.address < 4294967296
function_narrow table size end one place e =
    let below : place.address < first_address + size = function_inside size (conditions_of one.condition one.hit_condition)
    (label_address table (trimmed one.name)) place e in
    omega (arith, below, end)

-- ---- answers

-- what holds of an answer to little holds of the answer: too much is refused
if_few : (P : ResponseBody → Type 0) (next : ℕ) (much : Bool) (answer : Answer) → (NumbersFit next answer.list → IfOk answer.result P)
    → let it = cond much (record { result = Err TooMuch; list = None }) answer in NumbersFit next it.list → IfOk it.result P
if_few P next true answer h = λ fit. tt
if_few P next false answer h = h

-- the lines of a source, which is the program's or not
source_proper : (own : Bool) (table : Table) (view : View) (next : ℕ) (asked : List SourceBreakpoint) → IsNarrow table
    → All (λ b. b.line < 4294967296) asked → NumbersFit next (source.of_source own table view next asked).list
    → list_all source_breakpoint.is_in (entries_of (source.judged own table view.line_base) (source.entry view.line_base) next asked) ≡ true
source_proper true table view next asked narrow lines fit =
    lines_proper (source.judged true table view.line_base) view.line_base next asked
    (source_narrow true table view.line_base narrow) lines fit
source_proper false table view next asked narrow lines fit = unknown asked lines where
  unknown : (asked : List SourceBreakpoint) → All (λ b. b.line < 4294967296) asked
      → list_all source_breakpoint.is_in (entries_of (source.judged false table view.line_base) (source.entry view.line_base) next asked) ≡ true
  unknown [] lines = refl
  unknown (one ∷ others) lines =
      let first : one.line < 4294967296 = All-head (λ b. b.line < 4294967296) one others lines in
      both (source_breakpoint.is_in (source.unverified one.line UnknownSource)) _
      (both (ltb one.line 4294967296) true (lt-ltb one.line 4294967296 first) refl)
      (unknown others (All-tail (λ b. b.line < 4294967296) one others lines))

alone : (x : Bool) → x ≡ true → (x && true) ≡ true
alone true e = refl
alone false e = cc

few_lines : (asked : List SourceBreakpoint) → All (λ b. b.line ≤ 2147483647) asked → All (λ b. b.line < 4294967296) asked
few_lines asked h = All-weaker (λ b. b.line ≤ 2147483647) (λ b. b.line < 4294967296) (λ b few. omega (arith, few)) asked h

pub answers_are_proper : AnswersAreProper
answers_are_proper (command.SetBreakpoints arguments) table size view next sets narrow end lines =
    let own = source.is_own view.path arguments.source.path in
    if_few _ next (source.is_too_much arguments.breakpoints) (source.of_source own table view next arguments.breakpoints)
    (λ fit. (refl, alone _ (source_proper own table view next arguments.breakpoints narrow (few_lines arguments.breakpoints lines) fit)))
answers_are_proper (command.SetFunctionBreakpoints arguments) table size view next sets narrow end lines =
    if_few _ next (ltb 1024 (length arguments.breakpoints)) _
    (λ fit. (
      refl,
      alone _
          (instructions_proper (function.judged table size) next arguments.breakpoints (function_narrow table size end) fit),
    ))
answers_are_proper (command.SetInstructionBreakpoints arguments) table size view next sets narrow end lines =
    if_few _ next (ltb 1024 (length arguments.breakpoints)) _
    (λ fit. (refl, alone _ (instructions_proper (instruction.judged size) next arguments.breakpoints (instruction_narrow size) fit)))
answers_are_proper other table size view next sets narrow end lines = cc
