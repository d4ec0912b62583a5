-- Calls that returned leave no trace.
use Rattle.course.proofs.Common.{[], ap, arith, calls_of, depth_of, drop, Kept, length, length-drop, length-take, List, Mark, marks_at, marks_of, max, min, nothing_kept, Pop, Push, refl, Retired, subst, suc, sym, take, take_all, with_mark, with_marks, zero, ℕ, ◌++◌, ◌+◌, ◌-◌, ◌∙◌, ◌∷◌, ◌≡◌, ◌≤◌}
use Rattle.std.proofs.lemmas.Grind.{flat_map-append}
use Rattle.course.specs.Laws.{Returned, ReturnsKeepCalls, ReturnsKeepDepth, height_of, marks_in}
use Rattle.course.specs.Laws.Returned.{Done, Called}
use Rattle.course.proofs.Standing.{Keeps, marks_keep}

-- the first of the first items
take-nothing : (n : ℕ) → take {A = ℕ} n [] ≡ []
take-nothing zero = refl
take-nothing (suc n) = refl

take-take : (m n k : ℕ) (xs : List ℕ) → k ≡ min m n → take m (take n xs) ≡ take k xs
take-take zero n k xs e = let none : 0 ≡ k = omega arith in ap (λ (i : ℕ). take i xs) none
take-take (suc m) zero k xs e = let none : 0 ≡ k = omega arith in ap (λ (i : ℕ). take i xs) none
take-take (suc m) (suc n) k [] e = sym (take-nothing k)
take-take (suc m) (suc n) zero (x ∷ xs) e = absurd (omega arith)
take-take (suc m) (suc n) (suc k) (x ∷ xs) e =
    let less : k ≡ min m n = omega arith in
    ap (λ (l : List ℕ). x ∷ l) (take-take m n k xs less)

-- the first items without the very first
drop-take : (n k x : ℕ) (xs : List ℕ) → k ≡ n - 1 → drop 1 (take n (x ∷ xs)) ≡ take k xs
drop-take zero k x xs e = let none : 0 ≡ k = omega arith in ap (λ (i : ℕ). take i xs) none
drop-take (suc n) k x xs e = let same : n ≡ k = omega arith in ap (λ (i : ℕ). take i xs) same

-- what a call that returned leaves, and those after it
call_leaves : (most within after pc : ℕ) (xs : List ℕ)
    → take (most - after) (drop 1 (take (most - within) (take most (pc ∷ xs)))) ≡ take (most - max (within + 1) after) xs
call_leaves most within after pc xs =
    ap (λ (l : List ℕ). take (most - after) (drop 1 l)) (take-take (most - within) most (most - within) (pc ∷ xs) (omega arith))
    ∙ ap (λ (l : List ℕ). take (most - after) l) (drop-take (most - within) (most - within - 1) pc xs refl)
    ∙ take-take (most - after) (most - within - 1) (most - max (within + 1) after) xs (omega arith)

-- marks one after the other
with_marks-append : (kept : Kept) (marks more : List Mark) → with_marks kept (marks ++ more) ≡ with_marks (with_marks kept marks) more
with_marks-append kept [] more = refl
with_marks-append kept (mark ∷ marks) more = with_marks-append (with_mark kept mark) marks more

-- no more calls are kept than may be
within_limit : (kept : Kept) (marks : List Mark) → length kept.calls ≤ 256 → length (with_marks kept marks).calls ≤ 256
within_limit kept [] h = h
within_limit kept (Push pc ∷ marks) h = within_limit (with_mark kept (Push pc)) marks (omega (arith, length-take 256 (pc ∷ kept.calls)))
within_limit kept (Pop ∷ marks) h = within_limit (with_mark kept Pop) marks (omega (arith, length-drop 1 kept.calls))

-- what calls that returned leave of what is kept
abbrev left_by : ℕ → List ℕ → ℕ → Kept
left_by depth addresses height = record { depth = depth; calls = take (256 - height) addresses }

abbrev kept_of : ℕ → List ℕ → Kept
kept_of depth addresses = record { depth = depth; calls = addresses }

pub with_marks-returned : (depth : ℕ) (addresses : List ℕ) (calls : Returned) → length addresses ≤ 256
    → with_marks (kept_of depth addresses) (marks_in calls) ≡ left_by depth addresses (height_of calls)
with_marks-returned depth addresses Done h = ap (kept_of depth) (sym (take_all 256 addresses h))
with_marks-returned depth addresses (Called pc within after) h =
    let called : List ℕ = take 256 (pc ∷ addresses) in
    let returned : List ℕ = drop 1 (take (256 - height_of within) called) in
    let called_fit : length called ≤ 256 = omega (arith, length-take 256 (pc ∷ addresses)) in
    let returned_fit : length returned ≤ 256 = omega
    (arith, length-drop 1 (take (256 - height_of within) called), length-take (256 - height_of within) called) in
    let as_before : depth + 1 - 1 ≡ depth = omega arith in
    with_marks-append (kept_of (depth + 1) called) (marks_in within) (Pop ∷ marks_in after)
    ∙ ap (λ (kept : Kept). with_marks kept (Pop ∷ marks_in after)) (with_marks-returned (depth + 1) called within called_fit)
    ∙ ap (λ (d : ℕ). with_marks (kept_of d returned) (marks_in after)) as_before
    ∙ with_marks-returned depth returned after returned_fit
    ∙ ap (kept_of depth) (call_leaves 256 (height_of within) (height_of after) pc addresses)

-- no more calls are kept of a program than may be
length-calls_of : (retired : List Retired) → length (calls_of retired) ≤ 256
length-calls_of retired =
    let start : Keeps nothing_kept [] = record { depth = refl; calls = refl } in
    let now : Keeps (with_marks nothing_kept (marks_of retired)) (marks_of retired) = marks_keep nothing_kept [] (marks_of retired) start in
    subst (λ (l : List ℕ). length l ≤ 256) now.calls (within_limit nothing_kept (marks_of retired) (omega arith))

returns_undo_calls : (before since : List Retired) (calls : Returned) → marks_of since ≡ marks_in calls
    → Keeps (left_by (depth_of before) (calls_of before) (height_of calls)) (marks_of (before ++ since))
returns_undo_calls before since calls e =
    let kept : Kept = kept_of (depth_of before) (calls_of before) in
    let of_before : Keeps kept (marks_of before) = record { depth = refl; calls = refl } in
    let left : with_marks kept (marks_in calls) ≡ left_by (depth_of before) (calls_of before) (height_of calls) = with_marks-returned
    (depth_of before) (calls_of before) calls (length-calls_of before) in
    let all : marks_of (before ++ since) ≡ marks_of before ++ marks_in calls = flat_map-append (λ r. marks_at r.instr r.pc) before since
    ∙ ap (λ (l : List Mark). marks_of before ++ l) e in
    subst (λ (marks : List Mark). Keeps (left_by (depth_of before) (calls_of before) (height_of calls)) marks) (sym all)
    (subst (λ (k : Kept). Keeps k (marks_of before ++ marks_in calls)) left (marks_keep kept (marks_of before) (marks_in calls) of_before))

pub returns_keep_depth : ReturnsKeepDepth
returns_keep_depth before since calls e = sym (returns_undo_calls before since calls e).depth

pub returns_keep_calls : ReturnsKeepCalls
returns_keep_calls before since calls e = sym (returns_undo_calls before since calls e).calls
