-- Names that other assemblers have for what this language says otherwise.
use Rattle.std.specs.Prelude.{ℕ, List, [], ◌∷◌, codes}

-- mnemonics of RARS, Venus and GNU as, and those of this language ("RISC-V Assembly Programmer's Manual", pseudoinstructions)
abbrev pub mnemonics : List (List ℕ × List ℕ)
mnemonics = (codes "b", codes "j") ∷ (codes "move", codes "mv") ∷ (codes "lla", codes "la") ∷ (codes "scall", codes "ecall")
    ∷ (codes "sbreak", codes "ebreak") ∷ []

-- instructions of three registers, and those that take an immediate in place of the third (RISC-V Unprivileged ISA 20191213, section 2.4)
abbrev pub with_immediates : List (List ℕ × List ℕ)
with_immediates = (codes "add", codes "addi") ∷ (codes "and", codes "andi") ∷ (codes "or", codes "ori") ∷ (codes "xor", codes "xori")
    ∷ (codes "sll", codes "slli") ∷ (codes "srl", codes "srli") ∷ (codes "sra", codes "srai") ∷ (codes "slt", codes "slti")
    ∷ (codes "sltu", codes "sltiu") ∷ []

-- comparisons, and those that say the same with their operands the other way round
abbrev pub the_other_way : List (List ℕ × List ℕ)
the_other_way = (codes "sgt", codes "slt") ∷ (codes "sgtu", codes "sltu") ∷ []

-- letters after a backslash, and the bytes that they mean (ISO C11, section 5.2.2)
abbrev pub escapes : List (List ℕ × ℕ)
escapes = (codes "n", 10) ∷ (codes "t", 9) ∷ (codes "r", 13) ∷ (codes "a", 7) ∷ (codes "b", 8) ∷ (codes "f", 12) ∷ (codes "v", 11)
    ∷ (codes "\"", 34) ∷ (codes "'", 39) ∷ (codes "\\", 92) ∷ []
