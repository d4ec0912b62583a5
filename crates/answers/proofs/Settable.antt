-- A list that an answer sets can be set: it is short enough, and each breakpoint stops at some hit.
use Rattle.answers.proofs.Common.{[], All, All-cons, All-head, All-nil, All-tail, Answer, ap, arith, bind, Bool, both, CanBeSet, cond, condition_of, Conditions, conditions_of, entries_of, Err, false, followed_by, FunctionBreakpoint, hit_of, if_positive, IfOk, IfSome, InstructionBreakpoint, label_address, leb, leb-true, length, length-map, line_in_image, List, list_any, list_of, ltb, ltb-false, map, next_after, None, numeral, NumeralError, Ok, Option, option_map, Problem, refl, Result, said, SetFunctionBreakpoints, SetInstructionBreakpoints, Some, SourceBreakpoint, subst, sym, Table, TooMuch, Tree, trimmed, true, View, Wanted, wanted_by, ℕ, ◌||◌, ◌∷◌, ◌≡◌, ◌≤◌}
use Rattle.std.specs.declared.alloc.AllocError.{AllocError}
use Rattle.answers.specs.declared.problem.Problem.TheVariants.{BadAddress, BadHitCondition}
use Rattle.breakpoints.specs.declared.breakpoint.BreakSpec.{BreakSpec}
use Rattle.protocol.specs.declared.set_breakpoints.SetBreakpointsArguments.{SetBreakpointsArguments}
use Rattle.protocol.specs.declared.set_function_breakpoints.SetFunctionBreakpointsArguments as of_functions
use Rattle.protocol.specs.declared.set_instruction_breakpoints.SetInstructionBreakpointsArguments as given
use Rattle.answers.specs.Answers.{answer_by}
use Rattle.answers.specs.SetBreakpoints as source
use Rattle.answers.specs.SetFunctionBreakpoints as function
use Rattle.answers.specs.SetInstructionBreakpoints as instruction
use Rattle.answers.specs.declared.breaks.BreakAnswer.{BreakAnswer}

-- ---- results

pub one_value : {A E : Type 0} (r : Result A E) (x y : A) → r ≡ Ok x → r ≡ Ok y → x ≡ y
one_value (Ok z) x y e f = cc
one_value (Err error) x y e f = cc

no_value : {A E : Type 0} (r : Result A E) (error : E) (x : A) → r ≡ Err error → r ≡ Ok x → ⊥
no_value (Ok z) error x e f = cc
no_value (Err other) error x e f = cc

-- ---- hits

positive : (found : Result ℕ NumeralError) (n : ℕ) → if_positive found ≡ Ok n → 1 ≤ n
positive (Err error) n e = cc
positive (Ok m) n e =
    let P : Bool → Type 0 = λ v. leb 1 m ≡ v → cond v (Ok m) (Err BadHitCondition) ≡ Ok n → 1 ≤ n in
    let go : P (leb 1 m) = elim (leb 1 m) as P [
      | true ↦ λ v f. subst (λ (x : ℕ). 1 ≤ x) (one_value (Ok m) m n refl f) (leb-true 1 m v)
      | false ↦ λ v f. absurd (no_value (Err BadHitCondition) BadHitCondition n refl f)
    ] in go refl e

hit_positive : (text : Option (List ℕ)) (n : ℕ) → hit_of text ≡ Ok n → 1 ≤ n
hit_positive None n e = let one : 1 ≡ n = cc in omega (arith, one)
hit_positive (Some text) n e = positive (numeral 10 text) n e

both_hit : (condition : Result (Option Tree) Problem) (hit : Result ℕ Problem) (conditions : Conditions)
    → both condition hit ≡ Ok conditions → hit ≡ Ok conditions.hit
both_hit (Err problem) hit conditions e = cc
both_hit (Ok condition) (Err problem) conditions e = cc
both_hit (Ok condition) (Ok hit) conditions e =
    ap (λ (x : Conditions). Ok x.hit)
    (one_value (Ok (record { condition = condition; hit = hit })) (record { condition = condition; hit = hit }) conditions refl e)

terms_positive : (condition hits : Option (List ℕ)) (conditions : Conditions) → conditions_of condition hits ≡ Ok conditions
    → 1 ≤ conditions.hit
terms_positive condition hits conditions e =
    hit_positive (said hits) conditions.hit (both_hit (condition_of (said condition)) (hit_of (said hits)) conditions e)

source_placed : (conditions : Result Conditions Problem) (found : Option (ℕ × ℕ)) (log : Option (List ℕ)) (place : source.Place)
    → source.placed conditions found log ≡ Ok place → conditions ≡ Ok place.conditions
source_placed (Err problem) found log place e = cc
source_placed (Ok conditions) None log place e = cc
source_placed (Ok conditions) (Some found) log place e =
    ap (λ (x : source.Place). Ok x.conditions)
    (one_value (Ok (record { line = found.0; address = found.1; conditions = conditions; log = log }))
    (record { line = found.0; address = found.1; conditions = conditions; log = log }) place refl e)

instruction_placed : (conditions : Result Conditions Problem) (found : Option ℕ) (place : instruction.Place)
    → instruction.placed conditions found ≡ Ok place → conditions ≡ Ok place.conditions
instruction_placed (Err problem) found place e = cc
instruction_placed (Ok conditions) None place e = cc
instruction_placed (Ok conditions) (Some found) place e =
    ap (λ (x : instruction.Place). Ok x.conditions)
    (one_value (Ok (record { address = found; conditions = conditions }))
    (record { address = found; conditions = conditions }) place refl e)

-- a place that is kept only where an instruction can be
function_placed : (size : ℕ) (conditions : Result Conditions Problem) (found : Option ℕ) (place : instruction.Place)
    → function.placed size conditions found ≡ Ok place → conditions ≡ Ok place.conditions
function_placed size (Err problem) found place e = cc
function_placed size (Ok conditions) None place e = cc
function_placed size (Ok conditions) (Some address) place e =
    let made : instruction.Place = record { address = address; conditions = conditions } in
    let P : Bool → Type 0 = λ v. cond v (Ok made) (Err BadAddress) ≡ Ok place → conditions ≡ place.conditions in
    let go : P (instruction.is_instructions size address) = elim (instruction.is_instructions size address) as P [
      | true ↦ λ f. ap (λ (x : instruction.Place). x.conditions) (one_value (Ok made) made place refl f)
      | false ↦ λ f. absurd (no_value (Err BadAddress) BadAddress place refl f)
    ] in ap (λ (x : Conditions). Ok x) (go e)

source_positive : (own : Bool) (table : Table) (base : ℕ) (asked : SourceBreakpoint) (place : source.Place)
    → source.judged own table base asked ≡ Ok place → 1 ≤ place.conditions.hit
source_positive true table base asked place e =
    terms_positive asked.condition asked.hit_condition place.conditions
    (source_placed (conditions_of asked.condition asked.hit_condition) (bind table (line_in_image base asked.line))
    (source.written asked.log_message) place e)
source_positive false table base asked place e = cc

instruction_positive : (size : ℕ) (asked : InstructionBreakpoint) (place : instruction.Place) → instruction.judged size asked ≡ Ok place
    → 1 ≤ place.conditions.hit
instruction_positive size asked place e =
    terms_positive asked.condition asked.hit_condition place.conditions
    (instruction_placed (conditions_of asked.condition asked.hit_condition) (instruction.asked_address size asked) place e)

function_positive : (table : Table) (size : ℕ) (asked : FunctionBreakpoint) (place : instruction.Place)
    → function.judged table size asked ≡ Ok place → 1 ≤ place.conditions.hit
function_positive table size asked place e =
    terms_positive asked.condition asked.hit_condition place.conditions
    (function_placed size (conditions_of asked.condition asked.hit_condition) (label_address table (trimmed asked.name)) place e)

-- ---- lists

-- a list that can be set, as the definitions see it
pub record IsSettable (list : List Wanted) : Type 0 where
  pub few : length list ≤ 1024
  pub reachable : All (λ w. 1 ≤ w.hit) list

-- no list is longer than what was asked for
no_longer : {A P : Type 0} (judged : A → Result P Problem) (wanted : ℕ → P → Wanted) (next : ℕ) (asked : List A)
    → length (list_of judged wanted next asked) ≤ length asked
no_longer judged wanted next [] = omega arith
no_longer {P = P} judged wanted next (one ∷ others) =
    one_more (judged one) (no_longer judged wanted (next_after next (judged one)) others) where
      one_more : (found : Result P Problem) → length (list_of judged wanted (next_after next found) others) ≤ length others
          → length (followed_by wanted next found (list_of judged wanted (next_after next found) others)) ≤ length (one ∷ others)
      one_more (Ok place) h = omega (arith, h)
      one_more (Err problem) h = omega (arith, h)

all_reachable : {A P : Type 0} (judged : A → Result P Problem) (wanted : ℕ → P → Wanted) (next : ℕ) (asked : List A)
    → ((n : ℕ) (one : A) (place : P) → judged one ≡ Ok place → 1 ≤ (wanted n place).hit)
    → All (λ w. 1 ≤ w.hit) (list_of judged wanted next asked)
all_reachable judged wanted next [] h = All-nil (λ w. 1 ≤ w.hit)
all_reachable {P = P} judged wanted next (one ∷ others) h =
    one_more (judged one) refl (all_reachable judged wanted (next_after next (judged one)) others h) where
      one_more : (found : Result P Problem) → judged one ≡ found
          → All (λ w. 1 ≤ w.hit) (list_of judged wanted (next_after next found) others)
          → All (λ w. 1 ≤ w.hit) (followed_by wanted next found (list_of judged wanted (next_after next found) others))
      one_more (Ok place) e r = All-cons (λ w. 1 ≤ w.hit) (wanted next place) _ (h next one place e) r
      one_more (Err problem) e r = r

-- ---- the lists of answers

first_false : (a b : Bool) → (a || b) ≡ false → a ≡ false
first_false true b e = cc
first_false false b e = refl

-- where no more is asked for than may be, there are no more than 1,024
pub not_too_many : (asked : List SourceBreakpoint) → source.is_too_much asked ≡ false → length asked ≤ 1024
not_too_many asked e =
    ltb-false 1024 (length asked) (first_false (ltb 1024 (length asked)) (list_any (λ one. source.is_long one.log_message) asked) e)

pub source_settable : (table : Table) (view : View) (next : ℕ) (arguments : SetBreakpointsArguments)
    → IfSome (source.set_breakpoints table view next arguments).list IsSettable
source_settable table view next arguments =
    let asked = arguments.breakpoints in
    let of_list : (own : Bool) → length asked ≤ 1024
    → IfSome (source.of_source own table view next asked).list IsSettable = λ own few. by own few in
    let P : Bool → Type 0 = λ v. source.is_too_much asked ≡ v
    → IfSome (cond v (record { result = Err TooMuch; list = None })
    (source.of_source (source.is_own view.path arguments.source.path) table view next asked)).list IsSettable in
    let go : P (source.is_too_much asked) = elim (source.is_too_much asked) as P [
      | true ↦ λ v. tt
      | false ↦ λ v. of_list (source.is_own view.path arguments.source.path) (not_too_many asked v)
    ] in go refl
  where
    by : (own : Bool) → length arguments.breakpoints ≤ 1024
        → IfSome (source.of_source own table view next arguments.breakpoints).list IsSettable
    by true few = record {
      few =
          let short = no_longer (source.judged true table view.line_base) source.wanted next arguments.breakpoints in
          omega (arith, few, short);
      reachable =
          all_reachable (source.judged true table view.line_base) source.wanted next arguments.breakpoints
          (λ n one place e. source_positive true table view.line_base one place e);
    }
    by false few = tt

pub instruction_settable : (size next : ℕ) (arguments : given.SetInstructionBreakpointsArguments)
    → IfSome (instruction.set_instruction_breakpoints size next arguments).list IsSettable
instruction_settable size next arguments =
    let asked = arguments.breakpoints in
    let of_list : length asked ≤ 1024 → IsSettable (list_of (instruction.judged size) instruction.wanted next asked) = λ few. record {
      few = let short = no_longer (instruction.judged size) instruction.wanted next asked in omega (arith, few, short);
      reachable =
          all_reachable (instruction.judged size) instruction.wanted next asked (λ n one place e. instruction_positive size one place e);
    } in
    let made : Answer = record {
      result = Ok
          (SetInstructionBreakpoints (record { breakpoints = entries_of (instruction.judged size) instruction.entry next asked }));
      list = Some (list_of (instruction.judged size) instruction.wanted next asked);
    } in
    let P : Bool → Type 0 = λ v. ltb 1024 (length asked) ≡ v
    → IfSome (cond v (record { result = Err TooMuch; list = None }) made).list IsSettable in
    let go : P (ltb 1024 (length asked)) = elim (ltb 1024 (length asked)) as P [
      | true ↦ λ v. tt
      | false ↦ λ v. of_list (ltb-false 1024 (length asked) v)
    ] in go refl

pub function_settable : (table : Table) (size next : ℕ) (arguments : of_functions.SetFunctionBreakpointsArguments)
    → IfSome (function.set_function_breakpoints table size next arguments).list IsSettable
function_settable table size next arguments =
    let asked = arguments.breakpoints in
    let judged = function.judged table size in
    let of_list : length asked ≤ 1024 → IsSettable (list_of judged instruction.wanted next asked) = λ few. record {
      few = let short = no_longer judged instruction.wanted next asked in omega (arith, few, short);
      reachable = all_reachable judged instruction.wanted next asked (λ n one place e. function_positive table size one place e);
    } in
    let made : Answer = record {
      result = Ok (SetFunctionBreakpoints (record { breakpoints = entries_of judged instruction.entry next asked }));
      list = Some (list_of judged instruction.wanted next asked);
    } in
    let P : Bool → Type 0 = λ v. ltb 1024 (length asked) ≡ v
    → IfSome (cond v (record { result = Err TooMuch; list = None }) made).list IsSettable in
    let go : P (ltb 1024 (length asked)) = elim (ltb 1024 (length asked)) as P [
      | true ↦ λ v. tt
      | false ↦ λ v. of_list (ltb-false 1024 (length asked) v)
    ] in go refl

-- ---- the code's

can_be_set : (specs : List BreakSpec) → IsSettable (map wanted_by specs) → CanBeSet specs
can_be_set specs h =
    record { few = subst (λ (n : ℕ). n ≤ 1024) (length-map specs wanted_by) h.few; reachable = hits specs h.reachable } where
      hits : (specs : List BreakSpec) → All (λ w. 1 ≤ w.hit) (map wanted_by specs) → All (λ spec. 1 ≤ spec.hit) specs
      hits [] r = All-nil (λ spec. 1 ≤ spec.hit)
      hits (spec ∷ specs) r =
          All-cons (λ spec. 1 ≤ spec.hit) spec specs (All-head (λ w. 1 ≤ w.hit) (wanted_by spec) (map wanted_by specs) r)
          (hits specs (All-tail (λ w. 1 ≤ w.hit) (wanted_by spec) (map wanted_by specs) r))

list_settable : {V : Type 0} (items : V → List BreakSpec) (list : Option V)
    → IfSome (option_map (λ v. map wanted_by (items v)) list) IsSettable → IfSome list (λ v. CanBeSet (items v))
list_settable items None h = tt
list_settable items (Some v) h = can_be_set (items v) h

pub settable : (result : Result BreakAnswer AllocError) (a : Answer) → IfSome a.list IsSettable
    → IfOk result (λ answer. answer_by answer ≡ a) → IfOk result (λ answer. IfSome answer.list (λ list. CanBeSet list.items))
settable (Ok answer) a s h = list_settable (λ v. v.items) answer.list (subst (λ (x : Answer). IfSome x.list IsSettable) (sym h) s)
settable (Err error) a s h = tt
