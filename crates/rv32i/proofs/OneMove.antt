-- A machine has one move. Whether two effects are equal can be tested, so it is enough that they cannot differ. If they
-- did, the word at pc would encode no instruction, since each one would make them equal; and then both are its trap.
use Rattle.rv32i.proofs.Common.{alloc_error, ap, Bool, Break as Breakpoint, cond, Decides, Decides-eqb, Decides-int_eq, Effect, effect_of, Encodes, eqb, Err, Exit, false, fetch_fault, FetchOutside, Illegal, Instr, int_eq, IsIllegal, IsMove, JumpMisaligned, List, LoadMisaligned, LoadOutside, Machine, MemFault, not_from_Decides, Ok, pos, Printed, refl, Result, Retired, StoreMisaligned, StoreOutside, sym, Trap, trapped, true, UnknownCall, word_at, ℕ, ℤ, ◌∙◌, ◌≡◌}
use Rattle.std.proofs.Common.{MatchResult, bytes_eq}
use Rattle.std.specs.declared.alloc.AllocError.{AllocError}
use Rattle.std.proofs.lemmas.Slice.Eq.{bytes_eq-Decides}
use Rattle.rv32i.specs.declared.stepped.Stepped.{Stepped}

-- what a test decides, and what cannot fail to hold, holds
holds : {P : Type 0} (test : Bool) → Decides test P → ((P → ⊥) → ⊥) → P
holds true d n = d.0 refl
holds false d n = absurd (n (not_from_Decides false d refl))

-- An answer as two numbers, and back.
kind : Result Stepped AllocError → ℕ
kind (Ok Retired) = 0
kind (Ok (Printed n)) = 1
kind (Ok Breakpoint) = 2
kind (Ok (Exit n)) = 3
kind (Ok (Trap FetchOutside)) = 4
kind (Ok (Trap Illegal)) = 5
kind (Ok (Trap JumpMisaligned)) = 6
kind (Ok (Trap LoadMisaligned)) = 7
kind (Ok (Trap LoadOutside)) = 8
kind (Ok (Trap StoreMisaligned)) = 9
kind (Ok (Trap StoreOutside)) = 10
kind (Ok (Trap UnknownCall)) = 11
kind (Err error) = 12

number : Result Stepped AllocError → ℤ
number (Ok Retired) = pos 0
number (Ok (Printed n)) = n
number (Ok Breakpoint) = pos 0
number (Ok (Exit n)) = n
number (Ok (Trap cause)) = pos 0
number (Err error) = pos 0

abbrev stepped : ℕ → ℤ → Result Stepped AllocError
stepped k n =
    cond (eqb k 0) (Ok Retired)
    (cond (eqb k 1) (Ok (Printed n))
    (cond (eqb k 2) (Ok Breakpoint)
    (cond (eqb k 3) (Ok (Exit n))
    (cond (eqb k 4) (Ok (Trap FetchOutside))
    (cond (eqb k 5) (Ok (Trap Illegal))
    (cond (eqb k 6) (Ok (Trap JumpMisaligned))
    (cond (eqb k 7) (Ok (Trap LoadMisaligned))
    (cond (eqb k 8) (Ok (Trap LoadOutside))
    (cond (eqb k 9) (Ok (Trap StoreMisaligned))
    (cond (eqb k 10) (Ok (Trap StoreOutside)) (cond (eqb k 11) (Ok (Trap UnknownCall)) (Err alloc_error))))))))))))

back : (s : Result Stepped AllocError) → stepped (kind s) (number s) ≡ s
unfolding kind number
back (Ok Retired) = refl
back (Ok (Printed n)) = refl
back (Ok Breakpoint) = refl
back (Ok (Exit n)) = refl
back (Ok (Trap FetchOutside)) = refl
back (Ok (Trap Illegal)) = refl
back (Ok (Trap JumpMisaligned)) = refl
back (Ok (Trap LoadMisaligned)) = refl
back (Ok (Trap LoadOutside)) = refl
back (Ok (Trap StoreMisaligned)) = refl
back (Ok (Trap StoreOutside)) = refl
back (Ok (Trap UnknownCall)) = refl
back (Err error) = refl

same_answers : (s t : Result Stepped AllocError) → kind s ≡ kind t → number s ≡ number t → s ≡ t
same_answers s t k n = sym (back s) ∙ ap (λ a. stepped a (number s)) k ∙ ap (stepped (kind t)) n ∙ back t

abbrev made : Result Stepped AllocError → ℕ → List ℕ → List ℕ → Effect
made answer pc x memory = record { answer = answer; machine = record { pc = pc; x = x; memory = memory } }

same_effects : (e f : Effect) → e.answer ≡ f.answer → e.machine.pc ≡ f.machine.pc → e.machine.x ≡ f.machine.x
    → e.machine.memory ≡ f.machine.memory → e ≡ f
same_effects e f a p x m =
    ap (λ s. made s e.machine.pc e.machine.x e.machine.memory) a ∙ ap (λ s. made f.answer s e.machine.x e.machine.memory) p
    ∙ ap (λ s. made f.answer f.machine.pc s e.machine.memory) x ∙ ap (made f.answer f.machine.pc f.machine.x) m

-- Effects that cannot differ are equal.
numbers_equal : (m n : ℕ) → ((m ≡ n → ⊥) → ⊥) → m ≡ n
numbers_equal m n h = holds (eqb m n) (Decides-eqb m n) h

integers_equal : (m n : ℤ) → ((m ≡ n → ⊥) → ⊥) → m ≡ n
integers_equal m n h = holds (int_eq m n) (Decides-int_eq m n) h

lists_equal : (xs ys : List ℕ) → ((xs ≡ ys → ⊥) → ⊥) → xs ≡ ys
lists_equal xs ys h = holds (bytes_eq xs ys) (bytes_eq-Decides xs ys) h

effects_equal : (e f : Effect) → ((e ≡ f → ⊥) → ⊥) → e ≡ f
effects_equal e f n =
    let k = numbers_equal (kind e.answer) (kind f.answer) (λ no. n (λ h. no (ap (λ s. kind s.answer) h))) in
    let i = integers_equal (number e.answer) (number f.answer) (λ no. n (λ h. no (ap (λ s. number s.answer) h))) in
    let p = numbers_equal e.machine.pc f.machine.pc (λ no. n (λ h. no (ap (λ s. s.machine.pc) h))) in
    let x = lists_equal e.machine.x f.machine.x (λ no. n (λ h. no (ap (λ s. s.machine.x) h))) in
    let m = lists_equal e.machine.memory f.machine.memory (λ no. n (λ h. no (ap (λ s. s.machine.memory) h))) in
    same_effects e f (same_answers e.answer f.answer k i) p x m

abbrev Fetched : Machine → Effect → Result ℕ MemFault → Type 0
Fetched before effect fetched = MatchResult fetched
    (λ word. ((i : Instr) → Encodes i word → effect ≡ effect_of i before) × (IsIllegal word → effect ≡ trapped Illegal before))
    (λ fault. effect ≡ fetch_fault fault before)

one_fetched : (before : Machine) (e f : Effect) (fetched : Result ℕ MemFault) → Fetched before e fetched → Fetched before f fetched → e ≡ f
one_fetched before e f (Ok word) a b = effects_equal e f (λ no.
    let none : IsIllegal word = λ i h. no (a.0 i h ∙ sym (b.0 i h)) in
    no (a.1 none ∙ sym (b.1 none)))
one_fetched before e f (Err fault) a b = a ∙ sym b

pub one_move : (before : Machine) (e f : Effect) → IsMove before e → IsMove before f → e ≡ f
one_move before e f a b = one_fetched before e f (word_at before.memory before.pc) a b
