-- Entries of a disassembly that are made one by one.
use Rattle.answers.proofs.Common.{[], ap, append-nil, append_assoc, arith, entries_from, entry, ints, List, pos, suc, sym, zero, ℕ, ℤ, ◌*◌, ◌++◌, ◌+ℤ◌, ◌+◌, ◌-◌, ◌<◌, ◌∙◌, ◌∷◌, ◌≡◌, ◌≤◌}
use Rattle.message_parts.specs.declared.disassemble.Instruction.{Instruction}

further : (memory : List ℕ) (place : ℤ) (count : ℕ) → 0 < count
    → entries_from memory place count ≡ entry memory place ∷ entries_from memory (place +ℤ pos 4) (count - 1)
further memory place zero h = absurd (omega (arith, h))
further memory place (suc count) h =
    let same : count ≡ suc count - 1 = omega arith in ap (λ n. entry memory place ∷ entries_from memory (place +ℤ pos 4) n) same

pub none_yet : (memory : List ℕ) (first : ℤ) (count : ℕ)
    → entries_from memory (first +ℤ pos (4 * 0)) (count - 0) ≡ entries_from memory first count
none_yet memory first count =
    let at : first +ℤ pos (4 * 0) ≡ first = omega (arith, ints) in
    let all : count - 0 ≡ count = omega arith in
    ap (λ (p : ℤ). entries_from memory p (count - 0)) at ∙ ap (entries_from memory first) all

pub one_more : (memory : List ℕ) (first : ℤ) (count index : ℕ) (place : ℤ) (made made' all : List Instruction) (e : Instruction)
    → index < count → e ≡ entry memory place → place ≡ first +ℤ pos (4 * index) → made' ≡ made ++ e ∷ []
    → made ++ entries_from memory (first +ℤ pos (4 * index)) (count - index) ≡ all
    → made' ++ entries_from memory (first +ℤ pos (4 * (index + 1))) (count - (index + 1)) ≡ all
one_more memory first count index place made made' all e below is at more so =
    let here : ℤ = first +ℤ pos (4 * index) in
    let next : here +ℤ pos 4 ≡ first +ℤ pos (4 * (index + 1)) = omega (arith, ints) in
    let left : count - index - 1 ≡ count - (index + 1) = omega arith in
    let rest : List Instruction = entries_from memory (first +ℤ pos (4 * (index + 1))) (count - (index + 1)) in
    let is_here : e ≡ entry memory here = is ∙ ap (entry memory) at in
    let one : entries_from memory here (count - index) ≡ e ∷ rest =
    further memory here (count - index) (omega (arith, below))
    ∙ ap (λ (p : ℤ). entry memory here ∷ entries_from memory p (count - index - 1)) next
    ∙ ap (λ n. entry memory here ∷ entries_from memory (first +ℤ pos (4 * (index + 1))) n) left
    ∙ ap (λ (x : Instruction). x ∷ rest) (sym is_here) in
    ap (λ (l : List Instruction). l ++ rest) more ∙ append_assoc made (e ∷ []) rest ∙ ap (λ (l : List Instruction). made ++ l) (sym one)
    ∙ so

pub all_made : (memory : List ℕ) (first : ℤ) (count index : ℕ) (made all : List Instruction) → count ≤ index
    → made ++ entries_from memory (first +ℤ pos (4 * index)) (count - index) ≡ all → made ≡ all
all_made memory first count index made all end so =
    let none : count - index ≡ 0 = omega (arith, end) in
    sym (append-nil made) ∙ ap (λ n. made ++ entries_from memory (first +ℤ pos (4 * index)) n) (sym none) ∙ so
