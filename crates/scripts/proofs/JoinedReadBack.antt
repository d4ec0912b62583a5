-- What is recorded is read back.
use Rattle.scripts.proofs.Common.{[], all_for, ap, append-nil, append_assoc, arith, Bool, Connect, DropConnection, due, false, has_line, HaveLines, Hold, if◌then◌else◌, IsInRange, joined, length, length-take, List, list_all, nat_lt, nat_tests, None, Ok, Option, recorded_of, Recv, refl, script_of, Sent, Slice, slice_of, Some, Step, subst, sym, take, take-length, take-take, take_all, text_of, true, Turn, waiting_of, waits, watch_all, written_of, ℕ, ◌++◌, ◌+◌, ◌<◌, ◌^◌, ◌∙◌, ◌∷◌, ◌≡◌, ◌≤◌}
use Rattle.std.proofs.lemmas.Bool.{and_parts}
use Rattle.scripts.proofs.Records.{all_have, slice_has, text_append}
use Rattle.scripts.specs.RecorderLaws.{AreInRange, IsRecorded}
use Rattle.scripts.specs.Telling.{Finishes, ending}
use Rattle.scripts.specs.declared.progress.Progress.{Progress}
use Rattle.scripts.proofs.ReadBack.{cuts, scripts}

-- ---- events in their ranges

-- the moves that wait are of 32 bits
abbrev FewWait : Option ℕ → Type 0
FewWait None = Unit {0}
FewWait (Some moves) = moves < 2 ^ 32

range_append : (a b : List Step) → AreInRange a → AreInRange b → AreInRange (a ++ b)
range_append [] b h k = k
range_append (step ∷ a) b h k = (h.0, range_append a b h.1 k)

range_first : (a b : List Step) → AreInRange (a ++ b) → AreInRange a
range_first [] b h = tt
range_first (step ∷ a) b h = (h.0, range_first a b h.1)

slice_range : (waiting : Option ℕ) → FewWait waiting → AreInRange (slice_of waiting)
slice_range None h = tt
slice_range (Some moves) h = (h, tt)

-- what is due is in its range, and what waits then
abbrev DueInRange : Step → Option ℕ → Type 0
DueInRange step waiting = AreInRange (due step waiting) × FewWait (waits step waiting)

after_slice : (waiting : Option ℕ) (step : Step) → FewWait waiting → IsInRange step → AreInRange (slice_of waiting ++ step ∷ [])
after_slice waiting step h k = range_append (slice_of waiting) (step ∷ []) (slice_range waiting h) (k, tt)

due_range : (step : Step) (waiting : Option ℕ) → FewWait waiting → IsInRange step → DueInRange step waiting
due_range (Slice moves) None h k = (tt, k)
due_range (Slice moves) (Some before) h k =
    let P : Bool → Type 0 = λ t. nat_lt (before + moves) (2 ^ 32) ≡ t → AreInRange (if t then [] else Slice before ∷ [])
    × FewWait (if t then Some (before + moves) else Some moves) in
    let go : P (nat_lt (before + moves) (2 ^ 32)) = elim (nat_lt (before + moves) (2 ^ 32)) as P [
      | true ↦ λ t. let few : before + moves < 2 ^ 32 = grind (arith, nat_tests) in (tt, few)
      | false ↦ λ t. ((h, tt), k)
    ] in go refl
due_range Connect waiting h k = (after_slice waiting Connect h k, tt)
due_range (Recv piece) waiting h k = (after_slice waiting (Recv piece) h k, tt)
due_range (Turn path) waiting h k = (after_slice waiting (Turn path) h k, tt)
due_range Hold waiting h k = (after_slice waiting Hold h k, tt)
due_range (Sent count) waiting h k = (after_slice waiting (Sent count) h k, tt)
due_range DropConnection waiting h k = (after_slice waiting DropConnection h k, tt)

ranges : (waiting : Option ℕ) (steps : List Step) → FewWait waiting → AreInRange steps
    → AreInRange (written_of waiting steps) × FewWait (waiting_of waiting steps)
ranges waiting [] h k = (tt, h)
ranges waiting (step ∷ steps) h k =
    let one = due_range step waiting h k.0 in
    let others = ranges (waits step waiting) steps one.1 k.1 in
    (range_append (due step waiting) (written_of (waits step waiting) steps) one.0 others.0, others.1)

-- they have lines
have_lines : (steps : List Step) → AreInRange steps → list_all has_line steps ≡ true → HaveLines steps
have_lines [] h k = tt
have_lines (step ∷ steps) h k =
    let parts = and_parts (has_line step) (list_all has_line steps) k in ((h.0, parts.0), have_lines steps h.1 parts.1)

-- ---- a part of a part

part_of : (count most : ℕ) (text : List ℕ) → (n : ℕ) × (take count (take most text) ≡ take n text)
part_of count most text =
    let P : Bool → Type 0 = λ t. nat_lt count most ≡ t → (n : ℕ) × (take count (take most text) ≡ take n text) in
    let go : P (nat_lt count most) = elim (nat_lt count most) as P [
      | true ↦ λ t. let few : count ≤ most = grind (arith, nat_tests) in (count, take-take count most text few)
      | false ↦ λ t.
          let many : most ≤ count = grind (arith, nat_tests) in
          let size = length-take most text in
          let short : length (take most text) ≤ count = omega (arith, size, many) in
          (most, take_all count (take most text) short)
    ] in go refl

-- ---- the laws

-- what is read of the first of the joined events
abbrev ReadsFirst : List Step → List ℕ → Type 0
ReadsFirst steps text = (kept : List Step) × (more : List Step) × (joined steps ≡ kept ++ more) × (recorded_of text ≡ Ok (kept, None))

first_read : (steps first more : List Step) (text : List ℕ) (count most : ℕ) → AreInRange steps → written_of None steps ≡ first ++ more
    → list_all has_line first ≡ true → text ≡ take most (text_of first) → ReadsFirst steps (take count text)
first_read steps first more text count most range whole has is =
    let R : List Step → Type 0 = λ l. AreInRange l in
    let inside = range_first first more (subst R whole (ranges None steps tt range).0) in
    let part = part_of count most (text_of first) in
    let read = cuts first [] part.0 (have_lines first inside has) refl in
    let text_is : take count text ≡ take part.0 (text_of first ++ []) =
    ap (take count) is ∙ part.1 ∙ ap (take part.0) (sym (append-nil (text_of first))) in
    let end = slice_of (waiting_of None steps) in
    let parts : joined steps ≡ read.0 ++ (read.1 ++ (more ++ end)) =
    ap (λ (l : List Step). l ++ end) whole ∙ append_assoc first more end
    ∙ ap (λ (l : List Step). l ++ (more ++ end)) read.2 ∙ append_assoc read.0 read.1 (more ++ end) in
    (read.0, read.1 ++ (more ++ end), parts, ap recorded_of text_is ∙ read.3)

pub reading : (steps : List Step) (p : Option Progress) (text : List ℕ) (count : ℕ) → AreInRange steps
    → IsRecorded steps p (Some []) (Some text) → ReadsFirst steps (take count text)
reading steps None text count range h = first_read steps h.0 h.1 text count h.4 range h.2 h.3 h.5
reading steps (Some p) text count range h =
    let lines = written_of None steps in
    first_read steps lines [] text count (length (text_of lines)) range (sym (append-nil lines)) h.1
    (h.2 ∙ sym (take-length (text_of lines)))

pub finishing : (steps : List Step) (p : Option Progress) (text whole : List ℕ) (connection : ℕ) → AreInRange steps → connection < 2 ^ 32
    → IsRecorded steps p (Some []) (Some text) → Finishes connection true p (Some text) (Some whole)
    → script_of whole ≡ Ok (joined steps, all_for connection)
finishing steps None text whole connection range small h f = let no : true ≡ false = f.0 in cc
finishing steps (Some p) text whole connection range small h f =
    let lines = written_of None steps in
    let end = slice_of (waiting_of None steps) in
    let last = watch_all connection ++ 10 ∷ [] in
    let inside = ranges None steps tt range in
    let have = have_lines (joined steps) (range_append lines end inside.0 (slice_range (waiting_of None steps) inside.1))
    (all_have lines end h.1 (slice_has (waiting_of None steps))) in
    let is : whole ≡ text_of (joined steps) ++ last =
    f ∙ ap (λ (l : List ℕ). l ++ ending p connection) h.2
    ∙ ap (λ (w : Option ℕ). text_of lines ++ (text_of (slice_of w) ++ last)) h.0
    ∙ sym (append_assoc (text_of lines) (text_of end) last)
    ∙ ap (λ (l : List ℕ). l ++ last) (sym (text_append lines end)) in
    ap script_of is ∙ (scripts (joined steps) connection have small).0
