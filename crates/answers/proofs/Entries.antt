-- Entries and lists together.
use Rattle.answers.proofs.Common.{[], Answer, ap, arith, Bool, cond, EachHasItsEntry, entries_in, entries_of, EntriesTellTheList, Err, false, followed_by, FunctionBreakpoint, InstructionBreakpoint, length, List, list_of, ltb, map, next_after, None, NumbersFollowEachOther, Ok, Problem, refl, Result, set_at_instructions, set_at_lines, set_by_body, SetFunctionBreakpoints, SetInstructionBreakpoints, Some, SourceBreakpoint, suc, Table, those_set, TooMuch, true, View, Wanted, zero, ℕ, ◌+◌, ◌<◌, ◌∷◌, ◌≡◌}
use Rattle.std.proofs.Common.{slice_index}
use Rattle.protocol.specs.declared.command.Command.TheVariants as command
use Rattle.answers.specs.SetBreakpoints as source
use Rattle.answers.specs.SetFunctionBreakpoints as function
use Rattle.answers.specs.SetInstructionBreakpoints as instruction

-- ---- the numbers of a list

numbers : {A P : Type 0} (judged : A → Result P Problem) (wanted : ℕ → P → Wanted) → ((n : ℕ) (place : P) → (wanted n place).id ≡ n)
    → (next : ℕ) (asked : List A) (k : ℕ) → k < length (list_of judged wanted next asked)
    → slice_index (map (λ w. w.id) (list_of judged wanted next asked)) k ≡ next + k
numbers judged wanted same next [] k h = absurd (omega arith)
numbers {P = P} judged wanted same next (one ∷ others) k h =
    go (judged one) k h (numbers judged wanted same (next_after next (judged one)) others) where
      go : (found : Result P Problem) (k : ℕ)
          → k < length (followed_by wanted next found (list_of judged wanted (next_after next found) others))
          → ((j : ℕ) → j < length (list_of judged wanted (next_after next found) others) → slice_index (map (λ w. w.id) (list_of judged wanted (next_after next found) others)) j ≡ next_after next found + j)
          → slice_index (map (λ w. w.id) (followed_by wanted next found (list_of judged wanted (next_after next found) others))) k ≡ next + k
      go (Err problem) k h on = on k h
      go (Ok place) zero h on = let id : (wanted next place).id ≡ next = same next place in omega (arith, id)
      go (Ok place) (suc k) h on =
          let rest : slice_index (map (λ w. w.id) (list_of judged wanted (next + 1) others)) k ≡ next + 1 + k = on k (omega (arith, h)) in
          omega (arith, rest)

-- ---- how many entries there are

count : {A P E : Type 0} (judged : A → Result P Problem) (entry : ℕ → A → Result P Problem → E) (next : ℕ) (asked : List A)
    → length (entries_of judged entry next asked) ≡ length asked
count judged entry next [] = refl
count judged entry next (one ∷ others) = let rest = count judged entry (next_after next (judged one)) others in omega (arith, rest)

-- ---- what entries tell

lines_told : (judged : SourceBreakpoint → Result source.Place Problem) (base next : ℕ) (asked : List SourceBreakpoint)
    → set_at_lines (entries_of judged (source.entry base) next asked) ≡ map (λ w. (w.id, w.address)) (list_of judged source.wanted next asked)
lines_told judged base next [] = refl
lines_told judged base next (one ∷ others) = go (judged one) (lines_told judged base (next_after next (judged one)) others) where
  go : (found : Result source.Place Problem)
      → set_at_lines (entries_of judged (source.entry base) (next_after next found) others) ≡ map (λ w. (w.id, w.address)) (list_of judged source.wanted (next_after next found) others)
      → set_at_lines (source.entry base next one found ∷ entries_of judged (source.entry base) (next_after next found) others) ≡ map (λ w. (w.id, w.address)) (followed_by source.wanted next found (list_of judged source.wanted (next_after next found) others))
  go (Ok place) rest = ap (λ x. (next, place.address) ∷ x) rest
  go (Err problem) rest = rest

-- at addresses, or at functions
instructions_told : {A : Type 0} (judged : A → Result instruction.Place Problem) (next : ℕ) (asked : List A)
    → set_at_instructions (entries_of judged instruction.entry next asked) ≡ map (λ w. (w.id, w.address)) (list_of judged instruction.wanted next asked)
instructions_told judged next [] = refl
instructions_told {A} judged next (one ∷ others) = go (judged one) (instructions_told judged (next_after next (judged one)) others) where
  go : (found : Result instruction.Place Problem)
      → set_at_instructions (entries_of judged instruction.entry (next_after next found) others) ≡ map (λ w. (w.id, w.address)) (list_of judged instruction.wanted (next_after next found) others)
      → set_at_instructions (instruction.entry next one found ∷ entries_of judged instruction.entry (next_after next found) others) ≡ map (λ w. (w.id, w.address)) (followed_by instruction.wanted next found (list_of judged instruction.wanted (next_after next found) others))
  go (Ok place) rest = ap (λ x. (next, place.address) ∷ x) rest
  go (Err problem) rest = rest

-- of another source nothing is set
none_told : (table : Table) (base next : ℕ) (asked : List SourceBreakpoint)
    → set_at_lines (entries_of (source.judged false table base) (source.entry base) next asked) ≡ []
none_told table base next [] = refl
none_told table base next (one ∷ others) = none_told table base next others

-- ---- answers

-- what an answer promises, as the limit and the source say which it is
Tells : Answer → Type 0
Tells answer = set_by_body answer.result ≡ map (λ w. (w.id, w.address)) (those_set answer.list)

Numbers : ℕ → Answer → Type 0
Numbers next answer = (k : ℕ) → k < length (those_set answer.list) → slice_index (map (λ w. w.id) (those_set answer.list)) k ≡ next + k

within_limit : (P : Answer → Type 0) (many : Bool) (answer : Answer) → P (record { result = Err TooMuch; list = None }) → P answer
    → P (cond many (record { result = Err TooMuch; list = None }) answer)
within_limit P true answer a b = a
within_limit P false answer a b = b

refused_tells : Tells (record { result = Err TooMuch; list = None })
unfolding Tells
refused_tells = refl

refused_numbers : (next : ℕ) → Numbers next (record { result = Err TooMuch; list = None })
unfolding Numbers
refused_numbers next k h = absurd (omega arith)

source_tells : (own : Bool) (table : Table) (view : View) (next : ℕ) (asked : List SourceBreakpoint)
    → Tells (source.of_source own table view next asked)
unfolding Tells
source_tells true table view next asked = lines_told (source.judged true table view.line_base) view.line_base next asked
source_tells false table view next asked = none_told table view.line_base next asked

source_numbers : (own : Bool) (table : Table) (view : View) (next : ℕ) (asked : List SourceBreakpoint)
    → Numbers next (source.of_source own table view next asked)
unfolding Numbers
source_numbers true table view next asked k h =
    numbers (source.judged true table view.line_base) source.wanted (λ n place. refl) next asked k h
source_numbers false table view next asked k h = absurd (omega arith)

made_of : ℕ → ℕ → List InstructionBreakpoint → Answer
made_of size next asked = record {
  result = Ok (SetInstructionBreakpoints (record { breakpoints = entries_of (instruction.judged size) instruction.entry next asked }));
  list = Some (list_of (instruction.judged size) instruction.wanted next asked);
}

made_at : Table → ℕ → ℕ → List FunctionBreakpoint → Answer
made_at table size next asked = record {
  result = Ok (SetFunctionBreakpoints (record { breakpoints = entries_of (function.judged table size) instruction.entry next asked }));
  list = Some (list_of (function.judged table size) instruction.wanted next asked);
}

function_tells : (table : Table) (size next : ℕ) (asked : List FunctionBreakpoint) → Tells (made_at table size next asked)
unfolding Tells made_at
function_tells table size next asked = instructions_told (function.judged table size) next asked

function_numbers : (table : Table) (size next : ℕ) (asked : List FunctionBreakpoint) → Numbers next (made_at table size next asked)
unfolding Numbers made_at
function_numbers table size next asked k h = numbers (function.judged table size) instruction.wanted (λ n place. refl) next asked k h

instruction_tells : (size next : ℕ) (asked : List InstructionBreakpoint) → Tells (made_of size next asked)
unfolding Tells made_of
instruction_tells size next asked = instructions_told (instruction.judged size) next asked

instruction_numbers : (size next : ℕ) (asked : List InstructionBreakpoint) → Numbers next (made_of size next asked)
unfolding Numbers made_of
instruction_numbers size next asked k h = numbers (instruction.judged size) instruction.wanted (λ n place. refl) next asked k h

pub entries_tell : EntriesTellTheList
unfolding Tells made_of made_at
entries_tell (command.SetBreakpoints arguments) table size view next =
    within_limit Tells (source.is_too_much arguments.breakpoints)
    (source.of_source (source.is_own view.path arguments.source.path) table view next arguments.breakpoints) refused_tells
    (source_tells (source.is_own view.path arguments.source.path) table view next arguments.breakpoints)
entries_tell (command.SetFunctionBreakpoints arguments) table size view next =
    within_limit Tells (ltb 1024 (length arguments.breakpoints)) (made_at table size next arguments.breakpoints) refused_tells
    (function_tells table size next arguments.breakpoints)
entries_tell (command.SetInstructionBreakpoints arguments) table size view next =
    within_limit Tells (ltb 1024 (length arguments.breakpoints)) (made_of size next arguments.breakpoints) refused_tells
    (instruction_tells size next arguments.breakpoints)
entries_tell other table size view next = refl

pub numbers_follow : NumbersFollowEachOther
unfolding Numbers made_of made_at
numbers_follow (command.SetBreakpoints arguments) table size view next =
    within_limit (Numbers next) (source.is_too_much arguments.breakpoints)
    (source.of_source (source.is_own view.path arguments.source.path) table view next arguments.breakpoints) (refused_numbers next)
    (source_numbers (source.is_own view.path arguments.source.path) table view next arguments.breakpoints)
numbers_follow (command.SetFunctionBreakpoints arguments) table size view next =
    within_limit (Numbers next) (ltb 1024 (length arguments.breakpoints)) (made_at table size next arguments.breakpoints)
    (refused_numbers next) (function_numbers table size next arguments.breakpoints)
numbers_follow (command.SetInstructionBreakpoints arguments) table size view next =
    within_limit (Numbers next) (ltb 1024 (length arguments.breakpoints)) (made_of size next arguments.breakpoints) (refused_numbers next)
    (instruction_numbers size next arguments.breakpoints)
numbers_follow other table size view next = λ k h. absurd (omega arith)

few_entries : (much : Bool) (answer : Answer) (n : ℕ) → much ≡ false → entries_in answer.result ≡ n
    → entries_in (cond much (record { result = Err TooMuch; list = None }) answer).result ≡ n
few_entries much answer n little h = rw little h

pub each_has_its_entry : EachHasItsEntry
each_has_its_entry (command.SetBreakpoints arguments) table size view next sets few =
    let own = source.is_own view.path arguments.source.path in
    few_entries (source.is_too_much arguments.breakpoints) (source.of_source own table view next arguments.breakpoints)
    (length arguments.breakpoints) few
    (count (source.judged own table view.line_base) (source.entry view.line_base) next arguments.breakpoints)
each_has_its_entry (command.SetFunctionBreakpoints arguments) table size view next sets few =
    few_entries (ltb 1024 (length arguments.breakpoints)) (record {
      result =
          Ok (SetFunctionBreakpoints
          (record { breakpoints = entries_of (function.judged table size) instruction.entry next arguments.breakpoints }));
      list = Some (list_of (function.judged table size) instruction.wanted next arguments.breakpoints);
    }) (length arguments.breakpoints) few (count (function.judged table size) instruction.entry next arguments.breakpoints)
each_has_its_entry (command.SetInstructionBreakpoints arguments) table size view next sets few =
    few_entries (ltb 1024 (length arguments.breakpoints)) (record {
      result =
          Ok (SetInstructionBreakpoints
          (record { breakpoints = entries_of (instruction.judged size) instruction.entry next arguments.breakpoints }));
      list = Some (list_of (instruction.judged size) instruction.wanted next arguments.breakpoints);
    }) (length arguments.breakpoints) few (count (instruction.judged size) instruction.entry next arguments.breakpoints)
each_has_its_entry other table size view next sets few = cc
