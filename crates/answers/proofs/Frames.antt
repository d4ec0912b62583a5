-- The frames of the call stack, one after the other.
use Rattle.answers.proofs.Common.{[], addresses, ap, arith, body_of, Debugged, end_in, first_in, frame, Frame, frame_at, frames_from, frames_given, indices, length, length-map, List, map, number_for, number_in, Numbers, Ok, Option, range_with_len, refl, Some, stack_trace, StackTrace, StackTraceArguments, suc, sym, Table, Target, unwrap_or, View, with_targets, zero, ℕ, ◌++◌, ◌+◌, ◌-◌, ◌∙◌, ◌∷◌, ◌≡◌, ◌≤◌}
use Rattle.std.proofs.Common.{slice_index}
use Rattle.std.proofs.lemmas.List.FromFn.{map-range_with_len_more}
use Rattle.message_parts.specs.declared.stack_trace.StackFrame.{StackFrame}
use Rattle.answers.specs.Looking.{Look}
use Rattle.answers.proofs.Ranges.{length_range, range_part}

abbrev frame_targets : ℕ → ℕ → List Target
frame_targets first count = map (λ index. Frame index) (range_with_len first count)

-- one target more
pub target_on : (first index : ℕ) (done done' : List Target) → first ≤ index → done' ≡ done ++ Frame index ∷ []
    → done ≡ frame_targets first (index - first) → done' ≡ frame_targets first (index + 1 - first)
target_on first index done done' low more e =
    let place : first + (index - first) ≡ index = omega (arith, low) in
    let next : index - first + 1 ≡ index + 1 - first = omega (arith, low) in
    more ∙ ap (λ (l : List Target). l ++ Frame index ∷ []) e
    ∙ sym (map-range_with_len_more (λ (k : ℕ). Frame k) first (index - first) index place)
    ∙ ap (λ (n : ℕ). frame_targets first n) next

-- how many there are, and how many numbers they have
pub many_targets : (first end : ℕ) (targets : List Target) → targets ≡ frame_targets first (end - first) → length targets ≡ end - first
many_targets first end targets e =
    ap length e ∙ length-map (range_with_len first (end - first)) (λ (k : ℕ). Frame k) ∙ length_range (end - first) first

pub many_numbers : (numbers : Numbers) (targets : List Target) (ids : List ℕ) → map Some ids ≡ map (number_in numbers) targets
    → length ids ≡ length targets
many_numbers numbers targets ids e =
    sym (length-map ids (λ (n : ℕ). Some n)) ∙ ap length e ∙ length-map targets (number_in numbers)

-- ---- the frames that are given

frames_are : (table : Table) (view : View) (numbers : Numbers) (places : List ℕ) (count first : ℕ) (ids : List ℕ)
    → map Some ids ≡ map (number_in numbers) (frame_targets first count)
    → frames_from table view places first ids ≡ map (frame_at table view numbers places) (range_with_len first count)
frames_are table view numbers places zero first [] e = refl
frames_are table view numbers places zero first (id ∷ ids) e = let no : map Some (id ∷ ids) ≡ [] = e in cc
frames_are table view numbers places (suc count) first [] e =
    let no : [] ≡ map (number_in numbers) (frame_targets first (suc count)) = e in cc
frames_are table view numbers places (suc count) first (id ∷ ids) e =
    let here : Some id ≡ number_in numbers (Frame first) = head (Some id) (number_in numbers (Frame first)) (map Some ids)
    (map (number_in numbers) (frame_targets (first + 1) count)) e in
    let rest : map Some ids ≡ map (number_in numbers) (frame_targets (first + 1) count) = tail (Some id) (number_in numbers (Frame first))
    (map Some ids) (map (number_in numbers) (frame_targets (first + 1) count)) e in
    let same : id ≡ number_for numbers (Frame first) = ap (λ (n : Option ℕ). unwrap_or n 0) here in
    let others : List StackFrame = map (frame_at table view numbers places) (range_with_len (first + 1) count) in
    ap (λ (l : List StackFrame). frame table view id (slice_index places first) ∷ l)
    (frames_are table view numbers places count (first + 1) ids rest)
    ∙ ap (λ (n : ℕ). frame table view n (slice_index places first) ∷ others) same
  where
    head : (x y : Option ℕ) (xs ys : List (Option ℕ)) → (x ∷ xs) ≡ (y ∷ ys) → x ≡ y
    head x y xs ys e = cc

    tail : (x y : Option ℕ) (xs ys : List (Option ℕ)) → (x ∷ xs) ≡ (y ∷ ys) → xs ≡ ys
    tail x y xs ys e = cc

-- ---- the answer

which : (arguments : StackTraceArguments) (first end total : ℕ) → first ≡ first_in arguments.start_frame total
    → end ≡ end_in first arguments.levels total → end ≤ total → range_with_len first (end - first) ≡ indices arguments total
which arguments first end total begins ends within =
    ap (λ (n : ℕ). range_with_len n (end - n)) begins
    ∙ range_part arguments.start_frame arguments.levels total end (ends ∙ ap (λ (n : ℕ). end_in n arguments.levels total) begins) within

pub shown : (arguments : StackTraceArguments) (machine : Debugged) (table : Table) (numbers : Numbers) (view : View) (first end total : ℕ) (targets : List Target) (ids : List ℕ) (frames : List StackFrame)
    → total ≡ length (addresses machine) → first ≡ first_in arguments.start_frame total → end ≡ end_in first arguments.levels total
    → end ≤ total
    → targets ≡ frame_targets first (end - first) → map Some ids ≡ map (number_in (with_targets numbers targets)) targets
    → frames ≡ frames_from table view (addresses machine) first ids
    → ◌≡◌ {A = Look} (record { result = Ok (StackTrace (record { stack_frames = frames; total_frames = total })); targets = targets }) (record { result = stack_trace arguments machine table numbers view; targets = frames_given arguments machine })
shown arguments machine table numbers view first end total targets ids frames all begins ends within made numbered framed =
    let these : range_with_len first (end - first) ≡ indices arguments
    (length (addresses machine)) = which arguments first end total begins ends within ∙ ap (indices arguments) all in
    let given : targets ≡ frames_given arguments machine = made ∙ ap (λ (l : List ℕ). map (λ index. Frame index) l) these in
    let here : Numbers = with_targets numbers targets in
    let list : frames ≡ map (frame_at table view here (addresses machine)) (indices arguments (length (addresses machine))) =
    framed ∙ frames_are table view here (addresses machine) (end - first) first ids (numbered ∙ ap (map (number_in here)) made)
    ∙ ap (map (frame_at table view here (addresses machine))) these in
    ap (λ (l : List StackFrame). record {
      result = Ok (StackTrace (record { stack_frames = l; total_frames = total }));
      targets = targets;
    }) list
    ∙ ap (λ (n : ℕ). record {
      result = Ok
          (StackTrace (record {
            stack_frames = map (frame_at table view here (addresses machine))
                (indices arguments (length (addresses machine)));
            total_frames = n;
          }));
      targets = targets;
    }) all
    ∙ ap (λ (l : List Target). record {
      result = Ok
          (body_of table view (with_targets numbers l) (addresses machine) (indices arguments (length (addresses machine))));
      targets = l;
    }) given
