-- The disassembly of an instruction reads back as its word.
use Rattle.assembler.proofs.Common.{[], and_from, and_then, ap, arith, Bool, branch_instruction, branch_offset, Code, Coded, coded_branch, coded_jump, cond, Condition, content_at, distance, Encodes, false, Instr, IsContent, IsPart, jump_offset, Label, List, ltb, nat_tests, Ok, one, refl, size_of, Some, Statement, subst, sym, true, word_bytes, ℕ, ◌%◌, ◌+◌, ◌<◌, ◌==◌, ◌^◌, ◌∙◌, ◌∷◌, ◌≡◌}
use Rattle.rv32i.specs.Formats.{BType, JType}
use Rattle.rv32i.specs.Machine.{sum}
use Rattle.rv32i.specs.Texts.{is_plain_fence}
use Rattle.rv32i.specs.declared.instr.Instr.TheVariants as i
use Rattle.statements.proofs.Numerals.{chosen}
use Rattle.statements.proofs.Texts.{texts_read}
use Rattle.statements.specs.Texts.{branch_at, data_word, statement_of}
use Rattle.statements.specs.declared.operations.Condition.TheVariants as c
use Rattle.statements.specs.declared.statement.Statement.TheVariants as say
use Rattle.statements.specs.declared.statement.Target.TheVariants.{Address}
use Rattle.assembler.specs.Texts.{IsWordAt, TextsAreWords}
use Rattle.assembler.proofs.Unique.{part_unique}

-- what is right for a statement is all that is
stands : (pc word : ℕ) (statement : Statement) → size_of statement pc ≡ 4
    → ((labels : List Label) → IsPart (content_at labels pc (Some statement)) (word_bytes word)) → IsWordAt pc word statement
stands pc word statement size right = record {
  size = size;
  bytes = right;
  unique = λ labels bytes h. part_unique (content_at labels pc (Some statement)) bytes (word_bytes word) h (right labels);
}

-- the bytes of one instruction
one_instruction : (instruction : Instr) (word : ℕ) → Encodes instruction word → IsContent (Code (instruction ∷ [])) (word_bytes word)
one_instruction instruction word e = (word_bytes word, [], record { word = word; encodes = e; low_first = refl }, refl, refl)

one_stands : (instruction : Instr) (pc word : ℕ) → Encodes instruction word → IsWordAt pc word (say.One instruction)
one_stands instruction pc word e = stands pc word (say.One instruction) refl (λ labels. one_instruction instruction word e)

coded : (instruction : Instr) (word : ℕ) (code : Coded) → code ≡ Ok instruction → Encodes instruction word
    → IsPart (one code) (word_bytes word)
coded instruction word code h e = subst (λ x. IsPart (one x) (word_bytes word)) (sym h) (one_instruction instruction word e)

-- from an address to the sum of it and an offset it is as far as the offset
distance_back : (pc offset : ℕ) → pc < 2 ^ 32 → offset < 2 ^ 32 → distance (sum pc offset) pc ≡ offset
distance_back pc offset l m = omega arith

test_below : (a b : ℕ) → a < b → ltb a b ≡ true
test_below a b l = grind (arith, nat_tests)

test_even : (a : ℕ) → a % 2 ≡ 0 → (a % 2 == 0) ≡ true
test_even a h = grind (arith, nat_tests)

-- ---- jumps

jump_fits : {opcode rd offset word : ℕ} → JType opcode rd offset word
    → (offset < 2 ^ 32) × ((offset + 1048576) % 2 ^ 32 < 2097152) × (offset % 2 ≡ 0)
jump_fits e = (omega arith, omega arith, omega arith)

jump_taken : (offset : ℕ) → (offset + 1048576) % 2 ^ 32 < 2097152 → offset % 2 ≡ 0 → jump_offset offset ≡ Ok offset
jump_taken offset l even = chosen _ _ _ (and_from _ _ (test_below ((offset + 1048576) % 2 ^ 32) 2097152 l) (test_even offset even))

jump_stands : (rd offset pc word : ℕ) → pc < 2 ^ 32 → JType 0b1101111 rd offset word
    → IsWordAt pc word (say.Jump rd (Address (sum pc offset)))
jump_stands rd offset pc word l e =
    let fits = jump_fits e in
    let far : jump_offset (distance (sum pc offset) pc) ≡ Ok offset = ap jump_offset (distance_back pc offset l fits.0)
    ∙ jump_taken offset fits.1 fits.2 in
    stands pc word (say.Jump rd (Address (sum pc offset))) refl
    (λ labels. coded (i.Jal rd offset) word (coded_jump labels pc rd (Address (sum pc offset)))
    (ap (λ x. and_then x (λ offset. Ok (i.Jal rd offset))) far) e)

-- ---- branches

branch_fits : {opcode funct3 rs1 rs2 offset word : ℕ} → BType opcode funct3 rs1 rs2 offset word
    → (offset < 2 ^ 32) × ((offset + 4096) % 2 ^ 32 < 8192) × (offset % 2 ≡ 0)
branch_fits e = (omega arith, omega arith, omega arith)

branch_taken : (offset : ℕ) → (offset + 4096) % 2 ^ 32 < 8192 → offset % 2 ≡ 0 → branch_offset offset ≡ Ok offset
branch_taken offset l even = chosen _ _ _ (and_from _ _ (test_below ((offset + 4096) % 2 ^ 32) 8192 l) (test_even offset even))

branch_stands : (condition : Condition) (rs1 rs2 offset pc word : ℕ) → pc < 2 ^ 32 → {opcode funct3 : ℕ}
    → BType opcode funct3 rs1 rs2 offset word → Encodes (branch_instruction condition rs1 rs2 offset) word
    → IsWordAt pc word (branch_at pc condition rs1 rs2 offset)
branch_stands condition rs1 rs2 offset pc word l b e =
    let fits = branch_fits b in
    let far : branch_offset (distance (sum pc offset) pc) ≡ Ok offset = ap branch_offset (distance_back pc offset l fits.0)
    ∙ branch_taken offset fits.1 fits.2 in
    stands pc word (branch_at pc condition rs1 rs2 offset) refl
    (λ labels. coded (branch_instruction condition rs1 rs2 offset) word (coded_branch labels pc condition rs1 rs2 (Address (sum pc offset)))
    (ap (λ x. and_then x (λ offset. Ok (branch_instruction condition rs1 rs2 offset))) far) e)

-- ---- a fence, and a word of data

data_stands : (pc word : ℕ) → IsWordAt pc word (data_word word)
data_stands pc word = stands pc word (data_word word) refl (λ labels. refl)

fence_stands : (fm before after rd rs1 pc word : ℕ) → Encodes (i.Fence fm before after rd rs1) word
    → IsWordAt pc word (statement_of (i.Fence fm before after rd rs1) pc word)
fence_stands fm before after rd rs1 pc word e = go (is_plain_fence fm before after rd rs1) where
  go : (plain : Bool) → IsWordAt pc word (cond plain (say.One (i.Fence fm before after rd rs1)) (data_word word))
  go true = one_stands (i.Fence fm before after rd rs1) pc word e
  go false = data_stands pc word

-- ---- each instruction

statement_stands : (i : Instr) (pc word : ℕ) → pc < 2 ^ 32 → Encodes i word → IsWordAt pc word (statement_of i pc word)
statement_stands (i.Jal rd offset) pc word l e = jump_stands rd offset pc word l e
statement_stands (i.Beq rs1 rs2 offset) pc word l e = branch_stands c.Equal rs1 rs2 offset pc word l e e
statement_stands (i.Bne rs1 rs2 offset) pc word l e = branch_stands c.NotEqual rs1 rs2 offset pc word l e e
statement_stands (i.Blt rs1 rs2 offset) pc word l e = branch_stands c.LessThan rs1 rs2 offset pc word l e e
statement_stands (i.Bge rs1 rs2 offset) pc word l e = branch_stands c.GreaterOrEqual rs1 rs2 offset pc word l e e
statement_stands (i.Bltu rs1 rs2 offset) pc word l e = branch_stands c.LessThanUnsigned rs1 rs2 offset pc word l e e
statement_stands (i.Bgeu rs1 rs2 offset) pc word l e = branch_stands c.GreaterOrEqualUnsigned rs1 rs2 offset pc word l e e
statement_stands (i.Fence fm before after rd rs1) pc word l e = fence_stands fm before after rd rs1 pc word e
statement_stands other pc word l e = one_stands other pc word e

pub words : TextsAreWords
words instruction pc word text l h e = record {
  statement = statement_of instruction pc word;
  reads = texts_read instruction pc word text h e;
  stands = statement_stands instruction pc word l e;
}
