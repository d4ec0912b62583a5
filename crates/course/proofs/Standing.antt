-- What is kept represents all that retired.
use Rattle.course.proofs.Common.{[], ap, append-nil, append_assoc, arith, depth_after, depth_through, drop, Instr, Kept, kept_through, List, Mark, marks_at, marks_of, noted, nothing_kept, Pop, Push, refl, Retired, StandsFor, subst, sym, take, with_mark, with_marks, with_retired, ℕ, ◌++◌, ◌+◌, ◌∙◌, ◌∷◌, ◌≡◌}
use Rattle.std.proofs.lemmas.Grind.{flat_map-append}
use Rattle.course.proofs.Depths.{depth_through-more}
use Rattle.course.proofs.Keeping.{kept_through-push, kept_through-pop}

-- what is kept is the depth and the calls of these marks
pub record Keeps (kept : Kept) (marks : List Mark) : Type 0 where
  pub depth : kept.depth ≡ depth_through 0 marks
  pub calls : kept.calls ≡ kept_through 256 0 marks

-- after a push, and after a pop
pub push_keeps : (kept : Kept) (marks : List Mark) (pc : ℕ) → Keeps kept marks → Keeps (with_mark kept (Push pc)) (marks ++ Push pc ∷ [])
push_keeps kept marks pc h = record {
  depth = ap (λ (d : ℕ). d + 1) h.depth ∙ sym (depth_through-more 0 marks (Push pc));
  calls = ap (λ (l : List ℕ). take 256 (pc ∷ l)) h.calls ∙ sym (kept_through-push 256 0 marks pc (omega arith));
}

pub pop_keeps : (kept : Kept) (marks : List Mark) → Keeps kept marks → Keeps (with_mark kept Pop) (marks ++ Pop ∷ [])
pop_keeps kept marks h = record {
  depth = ap (λ (d : ℕ). depth_after d Pop) h.depth ∙ sym (depth_through-more 0 marks Pop);
  calls = ap (λ (l : List ℕ). drop 1 l) h.calls ∙ sym (kept_through-pop 256 0 marks);
}

pub mark_keeps : (kept : Kept) (marks : List Mark) (mark : Mark) → Keeps kept marks → Keeps (with_mark kept mark) (marks ++ mark ∷ [])
mark_keeps kept marks (Push pc) h = push_keeps kept marks pc h
mark_keeps kept marks Pop h = pop_keeps kept marks h

-- after marks
pub marks_keep : (kept : Kept) (marks more : List Mark) → Keeps kept marks → Keeps (with_marks kept more) (marks ++ more)
marks_keep kept marks [] h = rw (append-nil marks) h
marks_keep kept marks (mark ∷ more) h =
    subst (λ (all : List Mark). Keeps (with_marks (with_mark kept mark) more) all) (append_assoc marks (mark ∷ []) more)
    (marks_keep (with_mark kept mark) (marks ++ mark ∷ []) more (mark_keeps kept marks mark h))

-- the marks of one instruction more
pub marks_of-more : (retired : List Retired) (instr : Instr) (pc : ℕ)
    → marks_of (with_retired retired instr pc) ≡ marks_of retired ++ marks_at instr pc
marks_of-more retired instr pc =
    flat_map-append (λ r. marks_at r.instr r.pc) retired (record { instr = instr; pc = pc } ∷ [])
    ∙ ap (λ (l : List Mark). marks_of retired ++ l) (append-nil (marks_at instr pc))

-- before the first instruction, and after one more
pub nothing_stands : StandsFor nothing_kept []
nothing_stands = record { depth = refl; calls = refl }

pub noted_stands : (kept : Kept) (retired : List Retired) (instr : Instr) (pc : ℕ) → StandsFor kept retired
    → StandsFor (noted kept instr pc) (with_retired retired instr pc)
noted_stands kept retired instr pc h =
    let keeps : Keeps (noted kept instr pc) (marks_of retired ++ marks_at instr pc) = marks_keep kept (marks_of retired) (marks_at instr pc)
    (record { depth = h.depth; calls = h.calls }) in
    let all : Keeps (noted kept instr pc) (marks_of (with_retired retired instr pc)) = subst
    (λ (marks : List Mark). Keeps (noted kept instr pc) marks) (sym (marks_of-more retired instr pc)) keeps in
    record { depth = all.depth; calls = all.calls }

-- what was noted, as a value that is equal to it, represents it
pub notes : (kept new : Kept) (instr : Instr) (pc : ℕ) → new ≡ noted kept instr pc → (retired : List Retired) → StandsFor kept retired
    → StandsFor new (with_retired retired instr pc)
notes kept new instr pc e retired h =
    subst (λ (k : Kept). StandsFor k (with_retired retired instr pc)) (sym e) (noted_stands kept retired instr pc h)
