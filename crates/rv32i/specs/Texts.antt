-- The disassembly of a word: a statement of the assembly language that means it (RISC-V Unprivileged ISA 20191213,
-- chapter 25, and the listings of chapter 2).
--
-- That of an instruction is its mnemonic, a space, and the operands divided by a comma and a space. Registers have
-- their names, an immediate is a signed decimal, the 20 bits of an upper immediate are hexadecimal without leading
-- zeros, and the target of a jump or a branch is the absolute address, in eight hexadecimal digits. A FENCE
-- without such a statement is written as its word.
use Rattle.std.specs.Prelude.{◌≡◌, ℕ, ◌+◌, ◌/◌, ◌%◌, ◌^◌, Bool, nat_lt, not, if◌then◌else◌, ◌==◌, ◌&&◌, false, List, []}
use Rattle.std.specs.Prelude.{◌∷◌, ◌++◌, codes, decimal, refl}
use Rattle.std.specs.Bool.{MatchBool}
use Rattle.std.specs.Fmt.{signed_decimal, digits}
use Rattle.rv32i.specs.Encoding.{Encodes, IsIllegal}
use Rattle.rv32i.specs.Names.{name_of}
use Rattle.rv32i.specs.Machine.{signed, sum}
use Rattle.rv32i.specs.declared.instr.Instr.{Instr}
use Rattle.rv32i.specs.declared.instr.Instr.TheVariants.{Lui, Auipc, Jal, Jalr, Beq, Bne, Blt, Bge, Bltu, Bgeu, Lb, Lh}
use Rattle.rv32i.specs.declared.instr.Instr.TheVariants.{Lw, Lbu, Lhu, Sb, Sh, Sw, Addi, Slti, Sltiu, Xori, Ori, Andi}
use Rattle.rv32i.specs.declared.instr.Instr.TheVariants.{Slli, Srli, Srai, Add, Sub, Sll, Slt, Sltu, Xor, Srl, Sra, Or}
use Rattle.rv32i.specs.declared.instr.Instr.TheVariants.{And, Fence, Ecall, Ebreak}

-- a hexadecimal digit
abbrev pub hex_digit : ℕ → ℕ
hex_digit d = if nat_lt d 10 then d + 48 else d + 87

-- the eight hexadecimal digits of a word
abbrev pub eight_digits : ℕ → List ℕ
eight_digits n = hex_digit (n / 2 ^ 28) ∷ hex_digit (n / 2 ^ 24 % 16) ∷ hex_digit (n / 2 ^ 20 % 16) ∷
    hex_digit (n / 2 ^ 16 % 16) ∷ hex_digit (n / 2 ^ 12 % 16) ∷ hex_digit (n / 2 ^ 8 % 16) ∷
    hex_digit (n / 2 ^ 4 % 16) ∷ hex_digit (n % 16) ∷ []

-- an address
abbrev pub address_text : ℕ → List ℕ
address_text n = codes "0x" ++ eight_digits n

-- a word that no other statement means
abbrev pub word_text : ℕ → List ℕ
word_text n = codes ".word 0x" ++ eight_digits n

eight_digits_of : word_text 0x8330000f ≡ codes ".word 0x8330000f"
eight_digits_of = refl

-- a mnemonic and two operands
abbrev pub with_two : List ℕ → List ℕ → List ℕ → List ℕ
with_two name a b = name ++ (codes " " ++ (a ++ (codes ", " ++ b)))

-- a mnemonic and three operands
abbrev pub with_three : List ℕ → List ℕ → List ℕ → List ℕ → List ℕ
with_three name a b c = name ++ (codes " " ++ (a ++ (codes ", " ++ (b ++ (codes ", " ++ c)))))

-- three registers
abbrev pub registers_text : List ℕ → ℕ → ℕ → ℕ → List ℕ
registers_text name rd rs1 rs2 = with_three name (name_of rd) (name_of rs1) (name_of rs2)

-- two registers and an immediate
abbrev pub immediate_text : List ℕ → ℕ → ℕ → ℕ → List ℕ
immediate_text name rd rs1 imm = with_three name (name_of rd) (name_of rs1) (signed_decimal (signed imm))

-- two registers and a shift amount
abbrev pub shift_text : List ℕ → ℕ → ℕ → ℕ → List ℕ
shift_text name rd rs1 shamt = with_three name (name_of rd) (name_of rs1) (decimal shamt)

-- a register, and an address as a register and an immediate
abbrev pub access_text : List ℕ → ℕ → ℕ → ℕ → List ℕ
access_text name reg base imm =
    name ++ (codes " " ++ (name_of reg ++ (codes ", " ++ (signed_decimal (signed imm)
    ++ (codes "(" ++ (name_of base ++ codes ")"))))))

-- a register and the upper 20 bits
abbrev pub upper_text : List ℕ → ℕ → ℕ → List ℕ
upper_text name rd imm = with_two name (name_of rd) (codes "0x" ++ digits 16 false (imm / 4096))

-- a register and the target of a jump
abbrev pub jump_text : List ℕ → ℕ → ℕ → List ℕ
jump_text name rd target = with_two name (name_of rd) (address_text target)

-- two registers and the target of a branch
abbrev pub branch_text : List ℕ → ℕ → ℕ → ℕ → List ℕ
branch_text name rs1 rs2 target = with_three name (name_of rs1) (name_of rs2) (address_text target)

-- the letter of a kind of access, where its bit is set
abbrev pub letter : ℕ → List ℕ → List ℕ
letter bit text = if bit == 1 then text else []

-- a set of accesses: device input, device output, memory reads and memory writes, each by its letter
abbrev pub set_text : ℕ → List ℕ
set_text set =
    letter (set / 8) (codes "i") ++ (letter (set / 4 % 2) (codes "o")
    ++ (letter (set / 2 % 2) (codes "r") ++ letter (set % 2) (codes "w")))

-- whether a FENCE has a statement: the other fields are 0, and neither set is empty
abbrev pub is_plain_fence : (fm before after rd rs1 : ℕ) → Bool
is_plain_fence fm before after rd rs1 = (fm == 0)
    && ((rd == 0) && ((rs1 == 0) && (not (before == 0) && not (after == 0))))

-- The disassembly of each instruction, at an address.
abbrev pub HasText : Instr → ℕ → List ℕ → Type 0
HasText (Lui rd imm) pc text = text ≡ upper_text (codes "lui") rd imm
HasText (Auipc rd imm) pc text = text ≡ upper_text (codes "auipc") rd imm
HasText (Jal rd offset) pc text = text ≡ jump_text (codes "jal") rd (sum pc offset)
HasText (Jalr rd rs1 imm) pc text = text ≡ access_text (codes "jalr") rd rs1 imm
HasText (Beq rs1 rs2 offset) pc text = text ≡ branch_text (codes "beq") rs1 rs2 (sum pc offset)
HasText (Bne rs1 rs2 offset) pc text = text ≡ branch_text (codes "bne") rs1 rs2 (sum pc offset)
HasText (Blt rs1 rs2 offset) pc text = text ≡ branch_text (codes "blt") rs1 rs2 (sum pc offset)
HasText (Bge rs1 rs2 offset) pc text = text ≡ branch_text (codes "bge") rs1 rs2 (sum pc offset)
HasText (Bltu rs1 rs2 offset) pc text = text ≡ branch_text (codes "bltu") rs1 rs2 (sum pc offset)
HasText (Bgeu rs1 rs2 offset) pc text = text ≡ branch_text (codes "bgeu") rs1 rs2 (sum pc offset)
HasText (Lb rd rs1 imm) pc text = text ≡ access_text (codes "lb") rd rs1 imm
HasText (Lh rd rs1 imm) pc text = text ≡ access_text (codes "lh") rd rs1 imm
HasText (Lw rd rs1 imm) pc text = text ≡ access_text (codes "lw") rd rs1 imm
HasText (Lbu rd rs1 imm) pc text = text ≡ access_text (codes "lbu") rd rs1 imm
HasText (Lhu rd rs1 imm) pc text = text ≡ access_text (codes "lhu") rd rs1 imm
HasText (Sb rs1 rs2 imm) pc text = text ≡ access_text (codes "sb") rs2 rs1 imm
HasText (Sh rs1 rs2 imm) pc text = text ≡ access_text (codes "sh") rs2 rs1 imm
HasText (Sw rs1 rs2 imm) pc text = text ≡ access_text (codes "sw") rs2 rs1 imm
HasText (Addi rd rs1 imm) pc text = text ≡ immediate_text (codes "addi") rd rs1 imm
HasText (Slti rd rs1 imm) pc text = text ≡ immediate_text (codes "slti") rd rs1 imm
HasText (Sltiu rd rs1 imm) pc text = text ≡ immediate_text (codes "sltiu") rd rs1 imm
HasText (Xori rd rs1 imm) pc text = text ≡ immediate_text (codes "xori") rd rs1 imm
HasText (Ori rd rs1 imm) pc text = text ≡ immediate_text (codes "ori") rd rs1 imm
HasText (Andi rd rs1 imm) pc text = text ≡ immediate_text (codes "andi") rd rs1 imm
HasText (Slli rd rs1 shamt) pc text = text ≡ shift_text (codes "slli") rd rs1 shamt
HasText (Srli rd rs1 shamt) pc text = text ≡ shift_text (codes "srli") rd rs1 shamt
HasText (Srai rd rs1 shamt) pc text = text ≡ shift_text (codes "srai") rd rs1 shamt
HasText (Add rd rs1 rs2) pc text = text ≡ registers_text (codes "add") rd rs1 rs2
HasText (Sub rd rs1 rs2) pc text = text ≡ registers_text (codes "sub") rd rs1 rs2
HasText (Sll rd rs1 rs2) pc text = text ≡ registers_text (codes "sll") rd rs1 rs2
HasText (Slt rd rs1 rs2) pc text = text ≡ registers_text (codes "slt") rd rs1 rs2
HasText (Sltu rd rs1 rs2) pc text = text ≡ registers_text (codes "sltu") rd rs1 rs2
HasText (Xor rd rs1 rs2) pc text = text ≡ registers_text (codes "xor") rd rs1 rs2
HasText (Srl rd rs1 rs2) pc text = text ≡ registers_text (codes "srl") rd rs1 rs2
HasText (Sra rd rs1 rs2) pc text = text ≡ registers_text (codes "sra") rd rs1 rs2
HasText (Or rd rs1 rs2) pc text = text ≡ registers_text (codes "or") rd rs1 rs2
HasText (And rd rs1 rs2) pc text = text ≡ registers_text (codes "and") rd rs1 rs2
HasText (Fence fm before after rd rs1) pc text =
    MatchBool (is_plain_fence fm before after rd rs1)
    (text ≡ with_two (codes "fence") (set_text before) (set_text after))
    ((word : ℕ) → Encodes (Fence fm before after rd rs1) word → text ≡ word_text word)
HasText Ecall pc text = text ≡ codes "ecall"
HasText Ebreak pc text = text ≡ codes "ebreak"

-- The disassembly of a word at an address: the text of its instruction; an illegal word is written as a number.
pub data IsTextOf (word pc : ℕ) (text : List ℕ) : Type 0 where
  Coded : (instruction : Instr) → Encodes instruction word → HasText instruction pc text → IsTextOf word pc text
  Illegal : IsIllegal word → text ≡ word_text word → IsTextOf word pc text
