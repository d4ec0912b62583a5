-- What the operations of a tree make of a stack: the tree's value on top of it, or its fault.
use Rattle.breakpoints.proofs.Common.{[], AndThen, ap, append-nil, append_assoc, arith, Binary, Bool, drop, drop_all, drop_more, Enclosed, Err, false, get_or, if◌then◌else◌, Infix, length, List, None, Number, Ok, OrElse, Pc, refl, Register, Round, Some, Square, suc, sym, take, Tree, true, Unary, zero, ℕ, ◌++◌, ◌+◌, ◌-◌, ◌<◌, ◌∙◌, ◌∷◌, ◌≡◌, ◌≢◌}
use Rattle.std.proofs.Common.{length-append}
use Rattle.std.proofs.lemmas.List.{drop-drop, length-take-le, take-append-drop}
use Rattle.std.proofs.Math.ListN.{set}
use Rattle.std.proofs.Math.Seq.{drop-append_seam, set-append_seam, take-append_seam}
use Rattle.rv32i.specs.Machine.{flag}
use Rattle.rv32i.specs.declared.hart.Hart.{Hart}
use Rattle.breakpoints.specs.Values.{before, between, decides, enclosed, is_true, Valued, value_of, with_value, word_anywhere}
use Rattle.breakpoints.specs.Private.Flat.{decider, joined_by, joined_with, made_by, number_alone, number_of, operations_of, outcome, reached, with_made, with_top}
use Rattle.breakpoints.specs.declared.operation.Operation.{Operation}
use Rattle.breakpoints.specs.declared.operation.Operation.TheVariants.{Before, Between, BetweenNumber, Decide, Load}
use Rattle.breakpoints.specs.declared.operation.Operation.TheVariants as o

-- operations that are passed over
passes : (hart : Hart) (memory stack : List ℕ) (over rest : List Operation)
    → outcome hart memory stack (length over) (over ++ rest) ≡ outcome hart memory stack 0 rest
passes hart memory stack [] [] = refl
passes hart memory stack [] (operation ∷ rest) = refl
passes hart memory stack (operation ∷ over) rest = passes hart memory stack over rest

-- what is made of what is made of a value
twice : (value : Valued) (f g : ℕ → Valued) → with_value value (λ v. with_value (f v) g) ≡ with_value (with_value value f) g
twice (Ok v) f g = refl
twice (Err fault) f g = refl

alike : (value : Valued) (f g : ℕ → Valued) → ((v : ℕ) → f v ≡ g v) → with_value value f ≡ with_value value g
alike (Ok v) f g h = h v
alike (Err fault) f g h = refl

itself : (value : Valued) → with_value value (λ v. Ok v) ≡ value
itself (Ok v) = refl
itself (Err fault) = refl

topped : (hart : Hart) (memory below : List ℕ) (rest : List Operation) (value : Valued)
    → with_made (with_top below value) (λ made n. outcome hart memory made n rest)
    ≡ with_value value (λ v. outcome hart memory (v ∷ below) 0 rest)
topped hart memory below rest (Ok v) = refl
topped hart memory below rest (Err fault) = refl

-- what follows continues with the value of a tree on top, or there is its fault
abbrev Adds : Hart → List ℕ → Tree → Type 0
Adds hart memory tree = (stack : List ℕ) (rest : List Operation)
    → outcome hart memory stack 0 (operations_of tree ++ rest)
    ≡ with_value (value_of tree hart memory) (λ v. outcome hart memory (v ∷ stack) 0 rest)

-- an operation for a number and its operator is as good as two
joined : (hart : Hart) (memory stack : List ℕ) (operator : Infix) (a : ℕ) (right rest : List Operation)
    → outcome hart memory (a ∷ stack) 0 (joined_by operator right ++ rest)
    ≡ outcome hart memory (a ∷ stack) 0 (right ++ Between operator ∷ rest)
joined hart memory stack operator a [] rest = refl
joined hart memory stack operator a (operation ∷ (next ∷ more)) rest =
    ap (outcome hart memory (a ∷ stack) 0) (append_assoc (operation ∷ (next ∷ more)) (Between operator ∷ []) rest)
joined hart memory stack operator a (o.Number n ∷ []) rest = refl
joined hart memory stack operator a (operation ∷ []) rest = refl

-- the right side of an operator, where its left side decides or not
after_left : (hart : Hart) (memory stack : List ℕ) (operator : Infix) (a : ℕ) (right : Tree) (rest : List Operation) (b : Bool)
    → Adds hart memory right
    → with_made (if b then Ok (flag (is_true a) ∷ stack, length (joined_by operator (operations_of right))) else Ok (a ∷ stack, 0))
    (λ made n. outcome hart memory made n (joined_by operator (operations_of right) ++ rest))
    ≡ with_value (if b then Ok (flag (is_true a)) else with_value (value_of right hart memory) (λ c. Ok (between operator a c)))
    (λ v. outcome hart memory (v ∷ stack) 0 rest)
after_left hart memory stack operator a right rest true h =
    passes hart memory (flag (is_true a) ∷ stack) (joined_by operator (operations_of right)) rest
after_left hart memory stack operator a right rest false h =
    joined hart memory stack operator a (operations_of right) rest
    ∙ h (a ∷ stack) (Between operator ∷ rest)
    ∙ twice (value_of right hart memory) (λ c. Ok (between operator a c)) (λ v. outcome hart memory (v ∷ stack) 0 rest)

with_right : (hart : Hart) (memory stack : List ℕ) (operator : Infix) (a : ℕ) (right : Tree) (rest : List Operation)
    → Adds hart memory right
    → outcome hart memory (a ∷ stack) 0
    (decider operator (length (joined_by operator (operations_of right))) ++ (joined_by operator (operations_of right) ++ rest))
    ≡ with_value (if decides operator a then Ok (flag (is_true a)) else with_value (value_of right hart memory)
    (λ c. Ok (between operator a c)))
    (λ v. outcome hart memory (v ∷ stack) 0 rest)
with_right hart memory stack OrElse a right rest h = after_left hart memory stack OrElse a right rest (decides OrElse a) h
with_right hart memory stack AndThen a right rest h = after_left hart memory stack AndThen a right rest (decides AndThen a) h
with_right hart memory stack operator a right rest h = after_left hart memory stack operator a right rest false h

adds : (hart : Hart) (memory : List ℕ) (tree : Tree) → Adds hart memory tree
adds hart memory (Number n) stack rest = refl
adds hart memory (Register r) stack rest = refl
adds hart memory Pc stack rest = refl
adds hart memory (Unary operator operand) stack rest =
    ap (outcome hart memory stack 0) (append_assoc (operations_of operand) (Before operator ∷ []) rest)
    ∙ adds hart memory operand stack (Before operator ∷ rest)
    ∙ twice (value_of operand hart memory) (λ v. Ok (before operator v)) (λ v. outcome hart memory (v ∷ stack) 0 rest)
adds hart memory (Binary operator left right) stack rest =
    let after = joined_by operator (operations_of right) in
    let decide = decider operator (length after) in
    let outer = append_assoc (operations_of left) (decide ++ after) rest
    ∙ ap (λ x. operations_of left ++ x) (append_assoc decide after rest) in
    ap (outcome hart memory stack 0) outer
    ∙ adds hart memory left stack (decide ++ (after ++ rest))
    ∙ alike (value_of left hart memory)
    (λ a. outcome hart memory (a ∷ stack) 0 (decide ++ (after ++ rest)))
    (λ a. with_value
    (if decides operator a then Ok (flag (is_true a)) else with_value (value_of right hart memory) (λ c. Ok (between operator a c)))
    (λ v. outcome hart memory (v ∷ stack) 0 rest))
    (λ a. with_right hart memory stack operator a right rest (adds hart memory right))
    ∙ twice (value_of left hart memory)
    (λ a. if decides operator a then Ok (flag (is_true a)) else with_value (value_of right hart memory) (λ c. Ok (between operator a c)))
    (λ v. outcome hart memory (v ∷ stack) 0 rest)
adds hart memory (Enclosed Round inner) stack rest =
    adds hart memory inner stack rest
    ∙ twice (value_of inner hart memory) (enclosed Round memory) (λ v. outcome hart memory (v ∷ stack) 0 rest)
adds hart memory (Enclosed Square inner) stack rest =
    ap (outcome hart memory stack 0) (append_assoc (operations_of inner) (Load ∷ []) rest)
    ∙ adds hart memory inner stack (Load ∷ rest)
    ∙ alike (value_of inner hart memory) (λ v. outcome hart memory (v ∷ stack) 0 (Load ∷ rest))
    (λ v. with_value (word_anywhere memory v) (λ w. outcome hart memory (w ∷ stack) 0 rest))
    (λ v. topped hart memory stack rest (word_anywhere memory v))
    ∙ twice (value_of inner hart memory) (word_anywhere memory) (λ v. outcome hart memory (v ∷ stack) 0 rest)

-- and alone they give it
pub runs : (hart : Hart) (memory : List ℕ) (tree : Tree) → outcome hart memory [] 0 (operations_of tree) ≡ value_of tree hart memory
runs hart memory tree =
    ap (outcome hart memory [] 0) (sym (append-nil (operations_of tree))) ∙ adds hart memory tree [] [] ∙ itself (value_of tree hart memory)

-- ---- how the code makes them

some_joined : (operator : Infix) (right : List Operation) → 0 < length (joined_by operator right)
some_joined operator [] = omega arith
some_joined operator (operation ∷ (next ∷ more)) = omega arith
some_joined operator (o.Number n ∷ []) = omega arith
some_joined operator (operation ∷ []) = omega arith

-- the operator is put to its right side
joined_after : (operator : Infix) (second third fourth right : List Operation) (m : ℕ)
    → m ≡ length second → third ≡ second ++ right → fourth ≡ take m third ++ joined_by operator (drop m third)
    → fourth ≡ second ++ joined_by operator right
joined_after operator second third fourth right m is_m is_third is_fourth =
    is_fourth
    ∙ ap (λ x. take m x ++ joined_by operator (drop m x)) is_third
    ∙ ap (λ i. take i (second ++ right) ++ joined_by operator (drop i (second ++ right))) is_m
    ∙ ap (λ x. x ++ joined_by operator (drop (length second) (second ++ right))) (take-append_seam second right)
    ∙ ap (λ x. second ++ joined_by operator x) (drop-append_seam second right)

-- where the right side is no number, the operator is appended
pub joined_apart : (operator : Infix) (all : List Operation) (m : ℕ) → number_alone (drop m all) ≡ None
    → all ++ Between operator ∷ [] ≡ take m all ++ joined_by operator (drop m all)
joined_apart operator all m none =
    let last = Between operator ∷ [] in
    ap (λ x. x ++ last) (sym (take-append-drop m all))
    ∙ append_assoc (take m all) (drop m all) last
    ∙ ap (λ x. take m all ++ joined_with operator (drop m all) x) (sym none)

-- one operation is left there
one_left : (all : List Operation) (m : ℕ) (other : Operation) → length all ≡ m + 1 → drop m all ≡ get_or all m other ∷ []
one_left all m other h =
    drop_more all m other (omega (arith, h)) ∙ ap (λ x. get_or all m other ∷ x) (drop_all (m + 1) all (omega (arith, h)))

pub number_left : (all : List Operation) (m : ℕ) (other : Operation) → length all ≡ m + 1
    → number_alone (drop m all) ≡ number_of (get_or all m other)
number_left all m other h = ap number_alone (one_left all m other h)

-- where it is one, it is put together with the operator
pub joined_in_one : (operator : Infix) (all : List Operation) (m n : ℕ) (other : Operation) → length all ≡ m + 1
    → number_of (get_or all m other) ≡ Some n → set all m (BetweenNumber operator n) ≡ take m all ++ joined_by operator (drop m all)
joined_in_one operator all m n other h e =
    let new = BetweenNumber operator n in
    let old = get_or all m other in
    let size : m ≡ length (take m all) = sym (length-take-le m all (omega (arith, h))) in
    let parts : all ≡ take m all ++ old ∷ [] = sym (take-append-drop m all) ∙ ap (λ x. take m all ++ x) (one_left all m other h) in
    ap (λ x. set x m new) parts
    ∙ ap (λ i. set (take m all ++ old ∷ []) i new) size
    ∙ set-append_seam (take m all) old [] new
    ∙ ap (λ x. take m all ++ joined_with operator (drop m all) x) (sym (number_left all m other h ∙ e))

-- more than one operation is no number, nor is none
pub not_alone : (right : List Operation) → length right ≢ 1 → number_alone right ≡ None
not_alone [] h = refl
not_alone (operation ∷ []) h = absurd (h (omega arith))
not_alone (operation ∷ (next ∷ rest)) h = refl

-- a decider is told how many operations were appended after it
told : (operator : Infix) (first after : List Operation) (n : ℕ) → n ≡ length first
    → set ((first ++ Decide operator 0 ∷ []) ++ after) n (Decide operator (length ((first ++ Decide operator 0 ∷ []) ++ after) - n - 1))
    ≡ first ++ Decide operator (length after) ∷ after
told operator first after n h =
    let most = first ++ Decide operator 0 ∷ [] in
    let count : length (most ++ after) - n - 1 ≡ length after = omega (
      arith,
      h,
      length-append most after,
      length-append first (Decide operator 0 ∷ []),
    ) in
    ap (λ k. set (most ++ after) n (Decide operator k)) count
    ∙ ap (λ x. set x n (Decide operator (length after))) (append_assoc first (Decide operator 0 ∷ []) after)
    ∙ ap (λ k. set (first ++ Decide operator 0 ∷ after) k (Decide operator (length after))) h
    ∙ set-append_seam first (Decide operator 0) after (Decide operator (length after))

told_each : (operator : Infix) (first after : List Operation) (n : ℕ) → n ≡ length first
    → reached operator n (length ((first ++ decider operator 0) ++ after) - n - 1) ((first ++ decider operator 0) ++ after)
    ≡ first ++ (decider operator (length after) ++ after)
told_each OrElse first after n h = told OrElse first after n h
told_each AndThen first after n h = told AndThen first after n h
told_each _ first after n h = ap (λ x. x ++ after) (append-nil first)

-- the operations of an operator between two operands, as they are appended one part after the other
pub between_both : (operator : Infix) (left right : Tree) (before first second third fourth last : List Operation) (n m k : ℕ)
    → first ≡ before ++ operations_of left → n ≡ length first → second ≡ first ++ decider operator 0 → m ≡ length second
    → third ≡ second ++ operations_of right → fourth ≡ take m third ++ joined_by operator (drop m third) → k ≡ length fourth
    → last ≡ reached operator n (k - n - 1) fourth → last ≡ before ++ operations_of (Binary operator left right)
between_both operator left right before first second third fourth last n m k is_first is_n is_second is_m is_third is_fourth is_k is_last =
    let after = joined_by operator (operations_of right) in
    let d = decider operator (length after) in
    let all : fourth ≡ (first ++ decider operator 0) ++ after =
    joined_after operator second third fourth (operations_of right) m is_m is_third is_fourth ∙ ap (λ x. x ++ after) is_second in
    is_last
    ∙ ap (λ i. reached operator n (i - n - 1) fourth) is_k
    ∙ ap (λ x. reached operator n (length x - n - 1) x) all
    ∙ told_each operator first after n is_n
    ∙ ap (λ x. x ++ (d ++ after)) is_first
    ∙ append_assoc before (operations_of left) (d ++ after)

-- and what is told is there
pub is_there : (operator : Infix) (right : Tree) (first second third fourth : List Operation) (m : ℕ)
    → second ≡ first ++ decider operator 0 → m ≡ length second → third ≡ second ++ operations_of right
    → fourth ≡ take m third ++ joined_by operator (drop m third) → length first < length fourth
is_there operator right first second third fourth m is_second is_m is_third is_fourth =
    let all = joined_after operator second third fourth (operations_of right) m is_m is_third is_fourth in
    omega (
      arith,
      some_joined operator (operations_of right),
      ap length is_second,
      length-append first (decider operator 0),
      ap length all,
      length-append second (joined_by operator (operations_of right)),
    )

-- ---- how they are run

skips : (hart : Hart) (memory stack : List ℕ) (n : ℕ) (operations : List Operation)
    → outcome hart memory stack n operations ≡ outcome hart memory stack 0 (drop n operations)
skips hart memory stack zero operations = refl
skips hart memory stack (suc n) [] = refl
skips hart memory stack (suc n) (operation ∷ rest) = skips hart memory stack n rest

-- an operation is done, and some are passed over
pub jumps : (hart : Hart) (memory stack below : List ℕ) (operations : List Operation) (operation : Operation) (at over : ℕ)
    → at < length operations → operation ≡ get_or operations at operation → made_by hart memory operation stack ≡ Ok (below, over)
    → outcome hart memory stack 0 (drop at operations) ≡ outcome hart memory below 0 (drop (at + (over + 1)) operations)
jumps hart memory stack below operations operation at over h is e =
    let rest = drop (at + 1) operations in
    let first : drop at operations ≡ operation ∷ rest = drop_more operations at operation h ∙ ap (λ x. x ∷ rest) (sym is) in
    let sum : at + 1 + over ≡ at + (over + 1) = omega arith in
    ap (outcome hart memory stack 0) first
    ∙ ap (λ d. with_made d (λ made n. outcome hart memory made n rest)) e
    ∙ skips hart memory below over rest
    ∙ ap (outcome hart memory below 0) (drop-drop over (at + 1) operations ∙ ap (λ n. drop n operations) sum)
