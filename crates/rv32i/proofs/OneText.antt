-- A word has one text at an address.
use Rattle.rv32i.proofs.Common.{Bool, Coded, Ebreak, Ecall, Encodes, false, Fence, HasText, Instr, is_plain_fence, List, subst, sym, TextIsUnique, true, word_text, ℕ, ◌∙◌, ◌≡◌}
use Rattle.std.specs.Bool.{MatchBool}
use Rattle.rv32i.specs.Texts.{Illegal}
use Rattle.rv32i.proofs.Unique.{one_instruction}

one_choice : (test : Bool) (text other same : List ℕ) (by : ℕ → List ℕ) (Q : ℕ → Type 0) (word : ℕ) → Q word
    → MatchBool test (text ≡ same) ((word : ℕ) → Q word → text ≡ by word)
    → MatchBool test (other ≡ same) ((word : ℕ) → Q word → other ≡ by word) → text ≡ other
one_choice true text other same by Q word q a b = a ∙ sym b
one_choice false text other same by Q word q a b = a word q ∙ sym (b word q)

one_has : (i : Instr) (word pc : ℕ) (text other : List ℕ) → Encodes i word → HasText i pc text → HasText i pc other → text ≡ other
one_has (Fence fm before after rd rs1) word pc text other e a b =
    one_choice (is_plain_fence fm before after rd rs1) text other _ word_text (Encodes (Fence fm before after rd rs1)) word e a b
one_has Ecall word pc text other e a b = a ∙ sym b
one_has Ebreak word pc text other e a b = a ∙ sym b
one_has _ word pc text other e a b = a ∙ sym b

pub one_text : TextIsUnique
one_text word pc text other (Coded i e a) (Coded j f b) =
    let same : j ≡ i = one_instruction j i word f e in
    let P : Instr → Type 0 = λ k. HasText k pc other in
    one_has i word pc text other e a (subst P same b)
one_text word pc text other (Coded i e a) (Illegal none b) = absurd (none i e)
one_text word pc text other (Illegal none a) (Coded j f b) = absurd (none j f)
one_text word pc text other (Illegal none a) (Illegal also b) = a ∙ sym b
