-- What is written after bytes.
use Rattle.assembler.proofs.Common.{[], Appends, AsmErrorKind, Code, Contained, Encodes, Err, Instr, List, refl, ReportsKind, word_bytes, ℕ, ◌++◌, ◌∷◌, ◌≡◌}
use Rattle.assembler.specs.declared.error.AsmErrorKind.TheVariants as k

pub itself : (kind : AsmErrorKind) (contained : Contained) → contained ≡ Err kind → ReportsKind kind contained
itself k.NoMemory contained same = tt
itself _ contained same = same

pub one_word : (instruction : Instr) (word : ℕ) (before after : List ℕ) → Encodes instruction word → after ≡ before ++ word_bytes word
    → Appends (Code (instruction ∷ [])) before after
one_word instruction word before after e h =
    (word_bytes word, (word_bytes word, [], record { word = word; encodes = e; low_first = refl }, refl, refl), h)
