-- Answers of frames and scopes can be sent: their numbers are in their ranges.
use Rattle.answers.proofs.Common.{[], addresses, All, All-cons, All-head, All-tail, AreIssued, arith, Bool, codes, column_by, cond, covers, Debugged, Done, drop, eqb, Err, false, find, Frame, frame_at, frame_of, frames_given, HoldsWords, IfOk, indices, IsNarrow, IsOutcomeOf, length, length-drop, length-map, length-take, line_by, line_in, line_in_editor, line_of, List, list_all, lt-ltb, ltb, map, name_at, None, number_for, number_from, number_in, Numbers, Ok, Option, option_map, part, range_with_len, refl, Refusal, Registers, Result, Row, slice_index, Some, source_by, Stack, stack_trace, StackTraceArguments, subst, suc, Table, take, Target, true, unwrap_or, View, with_all, with_targets, zero, ℕ, ◌&&◌, ◌+◌, ◌-◌, ◌<◌, ◌∷◌, ◌≡◌, ◌≤◌}
use Rattle.message_parts.specs.StackTrace.{stack_frame}
use Rattle.protocol.specs.declared.scopes.ScopesArguments.{ScopesArguments}
use Rattle.variables.specs.References.{is_same}
use Rattle.variables.proofs.Targets.{with_all-short}
use Rattle.answers.specs.Scopes.{body_by, scopes, scopes_of}
use Rattle.answers.proofs.ProperLooks.{both}
use Rattle.answers.proofs.Ranges.{length_range}
use Rattle.answers.proofs.Words.{small_at}

-- ---- the numbers of targets

number_small : (first : ℕ) (target : Target) (known : List Target) (n : ℕ) → number_from first target known ≡ Some n
    → n < first + length known
number_small first target [] n e = absurd (none e) where
  none : None ≡ Some n → ⊥
  none e = cc
number_small first target (t ∷ known) n e = by (is_same t target) e (number_small (first + 1) target known n) where
  by : (b : Bool) → cond b (Some first) (number_from (first + 1) target known) ≡ Some n
      → (number_from (first + 1) target known ≡ Some n → n < first + 1 + length known) → n < first + suc (length known)
  by true f later = let same : first ≡ n = cc in omega (arith, same)
  by false f later = let h = later f in omega (arith, h)

given_small : (found : Option ℕ) → ((n : ℕ) → found ≡ Some n → n < 4294967296) → unwrap_or found 0 < 4294967296
given_small None h = omega arith
given_small (Some n) h = h n refl

issued_small : (numbers : Numbers) (targets : List Target) (target : Target) → AreIssued numbers → length targets ≤ 257
    → number_for (with_targets numbers targets) target < 4294967296
issued_small numbers targets target issued few =
    given_small (number_in (with_targets numbers targets) target) (λ n e.
    let small : n < numbers.first + length (with_all numbers.targets targets) = number_small numbers.first target
    (with_all numbers.targets targets) n e in
    let short : length (with_all numbers.targets targets) ≤ length numbers.targets + length targets = with_all-short numbers.targets targets in
    let within : numbers.first + length numbers.targets ≤ numbers.last + 1 = issued.within in
    let last : numbers.last ≤ 2147483647 = issued.last in
    omega (arith, small, short, within, last, few))

-- ---- scopes

whole_in : (n : ℕ) → n < 4294967296 → (ltb n 4294967296 && true) ≡ true
whole_in n h = both (ltb n 4294967296) true (lt-ltb n 4294967296 h) refl

scopes_by : (numbers : Numbers) (found : Result ℕ Refusal) → AreIssued numbers
    → IfOk (body_by numbers found) (λ body. IsOutcomeOf (codes "scopes") (Done body))
scopes_by numbers (Err refusal) issued = tt
scopes_by numbers (Ok (suc index)) issued = (refl, refl)
scopes_by numbers (Ok zero) issued =
    let few : length (scopes_of 0) ≤ 257 = omega arith in
    let registers : ℕ = number_for (with_targets numbers (scopes_of 0)) Registers in
    let stack : ℕ = number_for (with_targets numbers (scopes_of 0)) Stack in
    let first : registers < 4294967296 = issued_small numbers (scopes_of 0) Registers issued few in
    let second : stack < 4294967296 = issued_small numbers (scopes_of 0) Stack issued few in (
      refl,
      both ((ltb registers 4294967296 && true) && ((ltb stack 4294967296 && true) && true)) true
          (both (ltb registers 4294967296 && true) ((ltb stack 4294967296 && true) && true) (whole_in registers first)
          (both (ltb stack 4294967296 && true) true (whole_in stack second) refl)) refl,
    )

pub scopes_are_proper : (arguments : ScopesArguments) (numbers : Numbers) → AreIssued numbers
    → IfOk (scopes arguments numbers) (λ body. IsOutcomeOf (codes "scopes") (Done body))
scopes_are_proper arguments numbers issued = scopes_by numbers (frame_of numbers arguments.frame_id) issued

-- ---- frames

line_small : (p : Row → Bool) (rows : List Row) (line : ℕ) → All (λ row. line_in row < 4294967296) rows
    → option_map line_in (find p rows) ≡ Some line → line < 4294967296
line_small p [] line small e = absurd (none e) where
  none : None ≡ Some line → ⊥
  none e = cc
line_small p (row ∷ rows) line small e =
    by (p row) e (λ f. line_small p rows line (All-tail (λ (r : Row). line_in r < 4294967296) row rows small) f) where
      by : (b : Bool) → option_map line_in (cond b (Some row) (find p rows)) ≡ Some line
          → (option_map line_in (find p rows) ≡ Some line → line < 4294967296) → line < 4294967296
      by true f later =
          let here : line_in row < 4294967296 = All-head (λ (r : Row). line_in r < 4294967296) row rows small in
          let same : line_in row ≡ line = cc in
          subst (λ (n : ℕ). n < 4294967296) same here
      by false f later = later f

frame_in : (view : View) (id address : ℕ) (name : List ℕ) (found : Option ℕ) → id < 4294967296 → address < 4294967296
    → view.column_base < 4294967296 → ((line : ℕ) → found ≡ Some line → line < 4294967296)
    → stack_frame.is_in (record { column = column_by view found; id = id; instruction_pointer_reference = address; line = line_by view found; name = name; source = source_by view found }) ≡ true
frame_in view id address name None small there column lines =
    both (ltb 0 4294967296) _ refl
    (both (ltb id 4294967296) _ (lt-ltb id 4294967296 small) (both (ltb address 4294967296) _ (lt-ltb address 4294967296 there) refl))
frame_in view id address name (Some line) small there column lines =
    let less : line < 4294967296 = lines line refl in
    let shown : line_in_editor view.line_base line < 4294967296 = omega (arith, less) in
    both (ltb view.column_base 4294967296) _ (lt-ltb view.column_base 4294967296 column)
    (both (ltb id 4294967296) _ (lt-ltb id 4294967296 small)
    (both (ltb address 4294967296) _ (lt-ltb address 4294967296 there)
    (both (ltb (line_in_editor view.line_base line) 4294967296) true (lt-ltb (line_in_editor view.line_base line) 4294967296 shown) refl)))

frames_in : (table : Table) (view : View) (numbers : Numbers) (places some : List ℕ)
    → ((target : Target) → number_for numbers target < 4294967296) → All (λ address. address < 4294967296) places → IsNarrow table
    → view.column_base < 4294967296 → list_all stack_frame.is_in (map (frame_at table view numbers places) some) ≡ true
frames_in table view numbers places [] ids there narrow column = refl
frames_in table view numbers places (index ∷ some) ids there narrow column =
    let address : ℕ = slice_index places index in
    both (stack_frame.is_in (frame_at table view numbers places index)) _
    (frame_in view (number_for numbers (Frame index)) address (name_at table address) (line_of table address) (ids (Frame index))
    (small_at places index there) column (λ line e. line_small (covers address) table.rows line narrow.lines e))
    (frames_in table view numbers places some ids there narrow column)

part_short : (start : ℕ) (count : Option ℕ) (l : List ℕ) → length (part start count l) ≤ length l
part_short start None l = let left : length (drop start l) ≡ length l - start = length-drop start l in omega (arith, left)
part_short start (Some count) l = by (eqb count 0) where
  left : length (drop start l) ≡ length l - start
  left = length-drop start l

  by : (b : Bool) → length (cond b (drop start l) (take count (drop start l))) ≤ length l
  by true = omega (arith, left)
  by false = let taken = length-take count (drop start l) in omega (arith, left, taken)

few_given : (arguments : StackTraceArguments) (machine : Debugged) → length machine.calls.calls ≤ 256
    → length (frames_given arguments machine) ≤ 257
few_given arguments machine few =
    let total : ℕ = length (addresses machine) in
    let some : List ℕ = indices arguments total in
    let same : length (frames_given arguments machine) ≡ length some = length-map some (λ (index : ℕ). Frame index) in
    let short : length some ≤ length (range_with_len 0 total) = part_short arguments.start_frame arguments.levels
    (range_with_len 0 total) in
    let all : length (range_with_len 0 total) ≡ total = length_range total 0 in
    let kept : total ≡ suc (length machine.calls.calls) = refl in
    omega (arith, same, short, all, kept, few)

places_in : (machine : Debugged) → HoldsWords machine → All (λ address. address < 4294967296) (addresses machine)
places_in machine holds = All-cons (λ (address : ℕ). address < 4294967296) machine.hart.pc machine.calls.calls holds.pc holds.calls

pub frames_are_proper : (arguments : StackTraceArguments) (machine : Debugged) (table : Table) (numbers : Numbers) (view : View)
    → HoldsWords machine → IsNarrow table → AreIssued numbers → view.column_base < 4294967296
    → IfOk (stack_trace arguments machine table numbers view) (λ body. IsOutcomeOf (codes "stackTrace") (Done body))
frames_are_proper arguments machine table numbers view holds narrow issued column =
    let given : List Target = frames_given arguments machine in
    let few : length given ≤ 257 = few_given arguments machine holds.few in
    let places : List ℕ = addresses machine in
    let calls : length machine.calls.calls ≤ 256 = holds.few in
    let total : length places < 4294967296 = omega (arith, calls) in (
      refl,
      both (list_all stack_frame.is_in
          (map (frame_at table view (with_targets numbers given) places) (indices arguments (length places)))) _
          (frames_in table view (with_targets numbers given) places (indices arguments (length places))
          (λ target. issued_small numbers given target issued few) (places_in machine holds) narrow column)
          (whole_in (length places) total),
    )
