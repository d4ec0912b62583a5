-- What a script got of the events that were told.
use Rattle.scripts.proofs.Common.{[], ap, append-nil, append_assoc, Bool, Connect, DropConnection, due, false, has_line, Hold, if◌then◌else◌, inl, inr, length, line_of, List, list_all, nat_lt, None, Option, Recv, refl, Sent, Slice, slice_of, Some, Step, subst, sym, take, take-append-add, take-length, text_of, true, Turn, waiting_of, waits, written_of, ℕ, ◌&&◌, ◌++◌, ◌+◌, ◌^◌, ◌∙◌, ◌∷◌, ◌≡◌}
use Rattle.std.proofs.lemmas.List.Folds.{list_all-append}
use Rattle.std.specs.Io.KnownBytes.{Appends, Keeps}
use Rattle.scripts.proofs.Appended.{appends_twice, kept_as_is, nothing_added, then_kept}
use Rattle.scripts.specs.Copies.{KnownCopies, path_of}
use Rattle.scripts.specs.RecorderLaws.{IsRecorded, next_path}
use Rattle.scripts.specs.Telling.{Script, Tells, TellsTurn}
use Rattle.scripts.specs.declared.progress.Progress.{Progress}

-- ---- two tests, and texts

and_both : (x y : Bool) → x ≡ true → y ≡ true → (x && y) ≡ true
and_both x y a b = rw (a, b) refl

pub text_append : (a b : List Step) → text_of (a ++ b) ≡ text_of a ++ text_of b
text_append [] b = refl
text_append (step ∷ a) b =
    ap (λ (l : List ℕ). line_of step ++ 10 ∷ l) (text_append a b) ∙ sym (append_assoc (line_of step) (10 ∷ text_of a) (text_of b))

written_append : (waiting : Option ℕ) (steps : List Step) (step : Step)
    → written_of waiting (steps ++ step ∷ []) ≡ written_of waiting steps ++ due step (waiting_of waiting steps)
written_append waiting [] step = append-nil (due step waiting)
written_append waiting (first ∷ steps) step =
    ap (λ (l : List Step). due first waiting ++ l) (written_append (waits first waiting) steps step)
    ∙ sym (append_assoc (due first waiting) (written_of (waits first waiting) steps) (due step (waiting_of (waits first waiting) steps)))

waiting_append : (waiting : Option ℕ) (steps : List Step) (step : Step)
    → waiting_of waiting (steps ++ step ∷ []) ≡ waits step (waiting_of waiting steps)
waiting_append waiting [] step = refl
waiting_append waiting (first ∷ steps) step = waiting_append (waits first waiting) steps step

-- ---- what is due has lines

pub all_have : (a b : List Step) → list_all has_line a ≡ true → list_all has_line b ≡ true → list_all has_line (a ++ b) ≡ true
all_have a b h k = list_all-append has_line a b ∙ and_both _ _ h k

pub slice_has : (waiting : Option ℕ) → list_all has_line (slice_of waiting) ≡ true
slice_has None = refl
slice_has (Some moves) = refl

-- an event after a slice that waits
after_slice : (waiting : Option ℕ) (step : Step) → has_line step ≡ true → list_all has_line (slice_of waiting ++ step ∷ []) ≡ true
after_slice waiting step h = all_have (slice_of waiting) (step ∷ []) (slice_has waiting) (and_both _ _ h refl)

due_has : (step : Step) (waiting : Option ℕ) → has_line step ≡ true → list_all has_line (due step waiting) ≡ true
due_has (Slice moves) None h = refl
due_has (Slice moves) (Some before) h =
    let P : Bool → Type 0 = λ t. list_all has_line (if t then [] else Slice before ∷ []) ≡ true in
    let go : P (nat_lt (before + moves) (2 ^ 32)) = elim (nat_lt (before + moves) (2 ^ 32)) as P [ true ↦ refl | false ↦ refl ] in go
due_has Connect waiting h = after_slice waiting Connect h
due_has (Recv piece) waiting h = after_slice waiting (Recv piece) h
due_has (Turn path) waiting h = after_slice waiting (Turn path) h
due_has Hold waiting h = after_slice waiting Hold h
due_has (Sent count) waiting h = after_slice waiting (Sent count) h
due_has DropConnection waiting h = after_slice waiting DropConnection h

-- ---- an event is told

-- what was written, and what is due
abbrev so_far : List Step → List Step
so_far steps = written_of None steps

abbrev next : List Step → Step → List Step
next steps step = due step (waiting_of None steps)

-- one that is told after the end
after_end : (steps : List Step) (step : Step) (before old new : Script) → IsRecorded steps None before old → Keeps old new
    → IsRecorded (steps ++ step ∷ []) None before new
after_end steps step before old new h k = (
  h.0,
  h.1 ++ next steps step,
  written_append None steps step ∙ ap (λ (l : List Step). l ++ next steps step) h.2 ∙ append_assoc h.0 h.1 (next steps step),
  h.3,
  h.4,
  then_kept before old new (take h.4 (text_of h.0)) h.5 k,
)

-- one that is written
going_on : (steps : List Step) (step : Step) (p q : Progress) (before old new : Script) → IsRecorded steps (Some p) before old
    → Tells step (Some p) (Some q) old new → IsRecorded (steps ++ step ∷ []) (Some q) before new
going_on steps step p q before old new h t =
    let P : List ℕ → Type 0 = λ l. Appends before new l in
    let text : text_of (so_far steps) ++ text_of (due step p.waiting) ≡ text_of (written_of None (steps ++ step ∷ [])) =
    ap (λ (w : Option ℕ). text_of (so_far steps) ++ text_of (due step w)) h.0
    ∙ sym (text_append (so_far steps) (next steps step)) ∙ sym (ap text_of (written_append None steps step)) in (
      ap (λ (r : Progress). r.waiting) t.1 ∙ ap (waits step) h.0 ∙ sym (waiting_append None steps step),
      ap (list_all has_line) (written_append None steps step)
          ∙ all_have (so_far steps) (next steps step) h.1 (due_has step (waiting_of None steps) t.0),
      subst P text (appends_twice before old new (text_of (so_far steps)) (text_of (due step p.waiting)) h.2 t.2),
    )

-- one that is written in part
ending_with : (steps : List Step) (step : Step) (p : Progress) (before old new : Script) (count : ℕ) → IsRecorded steps (Some p) before old
    → has_line step ≡ true → Appends old new (take count (text_of (due step p.waiting)))
    → IsRecorded (steps ++ step ∷ []) None before new
ending_with steps step p before old new count h has t =
    let P : List ℕ → Type 0 = λ l. Appends before new l in
    let first = so_far steps ++ next steps step in
    let text : text_of (so_far steps) ++ take count (text_of (due step p.waiting)) ≡ take (length (text_of (so_far steps)) + count)
    (text_of first) =
    ap (λ (w : Option ℕ). text_of (so_far steps) ++ take count (text_of (due step w))) h.0
    ∙ sym (take-append-add (text_of (so_far steps)) (text_of (next steps step)) count)
    ∙ ap (take (length (text_of (so_far steps)) + count)) (sym (text_append (so_far steps) (next steps step))) in (
      first,
      [],
      written_append None steps step ∙ sym (append-nil first),
      all_have (so_far steps) (next steps step) h.1 (due_has step (waiting_of None steps) has),
      length (text_of (so_far steps)) + count,
      subst P text (appends_twice before old new (text_of (so_far steps)) (take count (text_of (due step p.waiting))) h.2 t),
    )

-- one that has no line
ending_before : (steps : List Step) (step : Step) (p : Progress) (before old new : Script) (count : ℕ)
    → IsRecorded steps (Some p) before old
    → count ≡ 0 → Appends old new (take count (text_of (due step p.waiting)))
    → IsRecorded (steps ++ step ∷ []) None before new
ending_before steps step p before old new count h none t =
    let P : List ℕ → Type 0 = λ l. Appends before new l in
    let text : text_of (so_far steps) ++ take count (text_of (due step p.waiting)) ≡ take (length (text_of (so_far steps)))
    (text_of (so_far steps)) =
    ap (λ (n : ℕ). text_of (so_far steps) ++ take n (text_of (due step p.waiting))) none
    ∙ append-nil (text_of (so_far steps)) ∙ sym (take-length (text_of (so_far steps))) in (
      so_far steps,
      next steps step,
      written_append None steps step,
      h.1,
      length (text_of (so_far steps)),
      subst P text (appends_twice before old new (text_of (so_far steps)) (take count (text_of (due step p.waiting))) h.2 t),
    )

pub telling : (steps : List Step) (step : Step) (p q : Option Progress) (before old new : Script)
    → IsRecorded steps p before old → Tells step p q old new → IsRecorded (steps ++ step ∷ []) q before new
telling steps step None None before old new h t = after_end steps step before old new h t.1
telling steps step None (Some q) before old new h t = let no : Some q ≡ None = t.0 in cc
telling steps step (Some p) (Some q) before old new h t = going_on steps step p q before old new h t
telling steps step (Some p) None before old new h t =
    let P : Bool → Type 0 = λ b. has_line step ≡ b → IsRecorded (steps ++ step ∷ []) None before new in
    let go : P (has_line step) = elim (has_line step) as P [
      | true ↦ λ b. ending_with steps step p before old new t.1 h b t.2
      | false ↦ λ b. ending_before steps step p before old new t.1 h (t.3 b) t.2
    ] in go refl

pub nothing : (before : Script) → IsRecorded [] (Some (record { copies = 0; waiting = None })) before before
nothing before = (refl, refl, nothing_added before)

-- a turn that was given a text
pub turns : (steps : List Step) (text : List ℕ) (p q : Option Progress) (before old new : Script) (copies copies' : KnownCopies)
    → IsRecorded steps p before old → TellsTurn text p q old new copies copies'
    → IsRecorded (steps ++ Turn (Some (next_path p)) ∷ []) q before new
turns steps text None q before old new copies copies' h t = telling steps (Turn (Some [])) None q before old new h (t.0, t.1)
turns steps text (Some p) q before old new copies copies' h (inl t) =
    telling steps (Turn (Some (path_of (p.copies + 1)))) (Some (record p { copies = p.copies + 1 })) q before old new h t.1
turns steps text (Some p) None before old new copies copies' h (inr t) =
    ending_before steps (Turn (Some (path_of (p.copies + 1)))) p before old new 0 h refl (kept_as_is old new t.1)
turns steps text (Some p) (Some q) before old new copies copies' h (inr t) = let no : Some q ≡ None = t.0 in cc
