-- The disassembly of an instruction is read as its statement.
use Rattle.statements.proofs.Common.{[], access_text, Address, all_below_at, and_parts, ap, arith, Bool, Branch, branch_text, cases_Bool, codes, cond_both, Condition, decimal, digits, eight_digits, false, fence_of, HasText, inl, inr, is_plain, is_plain_fence, IsOperand, List, ltb, ltb-false, ltb-true, MatchBool-at_false, MatchBool-at_true, mnemonic_of, name_of, named, Names, nat_tests, negsuc, not, not-true, Ok, one, or_bad, pos, read, refl, Registers, registers_text, set_in, set_text, sets, Shift, shift_text, signed_decimal, Some, stated_alone, Statement, statement_of, Store, suc, sum, TakesNumbers, true, upper_text, with_two, ℕ, ⊎_elim, ◌%◌, ◌&&◌, ◌*◌, ◌++◌, ◌+◌, ◌-◌, ◌/◌, ◌<◌, ◌==◌, ◌^◌, ◌||◌, ◌∙◌, ◌∷◌, ◌≡◌, ◌≤◌}
use Rattle.byte_strings.proofs.Below.{all_below}
use Rattle.rv32i.specs.Formats.{BType, FenceType, IType, RType, SType, UType}
use Rattle.rv32i.specs.Machine.{signed}
use Rattle.rv32i.specs.declared.instr.Instr.{Instr}
use Rattle.statements.specs.Laws.{TextsAreRead}
use Rattle.statements.specs.Operations.{register_instruction, shift_instruction, store_instruction}
use Rattle.statements.specs.declared.operations.RegisterOperation.{RegisterOperation}
use Rattle.statements.specs.declared.operations.ShiftOperation.{ShiftOperation}
use Rattle.statements.specs.declared.operations.StoreOperation.{StoreOperation}
use Rattle.std.proofs.lemmas.Fmt.{decimal_is_IsNumeral, digits_is_IsNumeral}
use Rattle.statements.proofs.Addresses.{registers_named}
use Rattle.statements.proofs.AnyOperands.{list_means, plain_operand, two_means, two_ok}
use Rattle.statements.proofs.DataLines.{directives_say}
use Rattle.statements.proofs.Numerals.{eight_write}
use Rattle.statements.proofs.Places.{number_ranges}
use Rattle.statements.proofs.Registers.{index_is, is_index}
use Rattle.statements.specs.declared.operations.Condition.TheVariants as c
use Rattle.rv32i.specs.declared.instr.Instr.TheVariants as i
use Rattle.statements.specs.declared.operations.ImmediateOperation.TheVariants as m
use Rattle.statements.specs.declared.operations.RegisterOperation.TheVariants as r
use Rattle.statements.specs.declared.operations.ShiftOperation.TheVariants as s
use Rattle.statements.specs.declared.statement.Statement.TheVariants as say
use Rattle.statements.specs.declared.operations.StoreOperation.TheVariants as t

named_so : {n : ℕ} → n < 32 → Names (name_of n) n
named_so l = (l, inl refl)

-- ---- formats, each with its mnemonic as a parameter

registers_read : (name : List ℕ) (op : RegisterOperation) {opcode funct3 funct7 rd rs1 rs2 word : ℕ} → mnemonic_of name ≡ Some (Registers op)
    → RType opcode funct3 funct7 rd rs1 rs2 word
    → read (registers_text name rd rs1 rs2) ≡ stated_alone (say.One (register_instruction op rd rs1 rs2))
registers_read name op w e = registers_named name _ _ _ op _ _ _ w (named_so e.rd_fits) (named_so e.rs1_fits) (named_so e.rs2_fits)

shift_read : (name : List ℕ) (op : ShiftOperation) {opcode funct3 funct7 rd rs1 shamt word : ℕ} → mnemonic_of name ≡ Some (Shift op)
    → RType opcode funct3 funct7 rd rs1 shamt word
    → read (shift_text name rd rs1 shamt) ≡ stated_alone (say.One (shift_instruction op rd rs1 shamt))
shift_read name op {shamt = shamt} w e =
    (number_ranges.shift name _ _ op _ _ w (named_so e.rd_fits) (named_so e.rs1_fits)).within (decimal shamt) false shamt
    (inl (decimal_is_IsNumeral shamt (omega arith))) (omega arith)

-- an immediate of 12 bits, signed
place_read : {excepted : List ℕ → Bool} {line : List ℕ → List ℕ} {statement : ℕ → Statement} (sign low imm : ℕ) → sign < 2 → low < 2 ^ 11
    → imm ≡ sign * (2 ^ 32 - 2 ^ 11) + low → TakesNumbers 2048 2047 excepted line statement
    → read (line (signed_decimal (signed imm))) ≡ stated_alone (statement imm)
place_read {line = line} {statement} sign low imm s l e place =
    cond_both (ltb imm (2 ^ 31)) (pos imm) (negsuc (2 ^ 32 - suc imm)) (λ z. read (line (signed_decimal z)) ≡ stated_alone (statement imm))
    (λ t. let small : imm < 2 ^ 31 = ltb-true _ _ t in
    place.within (decimal imm) false imm (inl (decimal_is_IsNumeral imm (omega arith))) (omega arith))
    (λ t. let large : 2 ^ 31 ≤ imm = ltb-false _ _ t in
    let n : ℕ = suc (2 ^ 32 - suc imm) in
    let back : (2 ^ 32 - n) % 2 ^ 32 ≡ imm = omega arith in
    place.within (45 ∷ decimal n) true n (decimal n, (refl, inl (decimal_is_IsNumeral n (omega arith)))) (omega arith)
    ∙ ap (λ b. stated_alone (statement b)) back)

immediate_read : {excepted : List ℕ → Bool} {line : List ℕ → List ℕ} {statement : ℕ → Statement} {opcode funct3 rd rs1 imm word : ℕ}
    → IType opcode funct3 rd rs1 imm word → (Names (name_of rd) rd → Names (name_of rs1) rs1 → TakesNumbers 2048 2047 excepted line statement)
    → read (line (signed_decimal (signed imm))) ≡ stated_alone (statement imm)
immediate_read e place =
    place_read e.sign e.low _ e.sign_fits e.low_fits e.value (place (named_so e.rd_fits) (named_so e.rs1_fits))

store_read : (name : List ℕ) (op : StoreOperation) {opcode funct3 rs1 rs2 imm word : ℕ} → mnemonic_of name ≡ Some (Store op)
    → SType opcode funct3 rs1 rs2 imm word → read (access_text name rs2 rs1 imm) ≡ stated_alone (say.One (store_instruction op rs1 rs2 imm))
store_read name op w e =
    place_read e.sign (e.high * 2 ^ 5 + e.low) _ e.sign_fits (omega arith) (omega arith)
    (number_ranges.store name _ _ op _ _ w (named_so e.rs2_fits) (named_so e.rs1_fits))

upper_read : {excepted : List ℕ → Bool} (name : List ℕ) (make : ℕ → Instr) {opcode rd imm word : ℕ} → UType opcode rd imm word
    → (Names (name_of rd) rd → TakesNumbers 0 1048575 excepted (with_two name (name_of rd)) (λ n. say.One (make (n * 4096))))
    → read (upper_text name rd imm) ≡ stated_alone (say.One (make imm))
upper_read name make {imm = imm} e place =
    let k : ℕ = imm / 4096 in
    let back : k * 4096 ≡ imm = omega arith in
    let hex = digits_is_IsNumeral 16 false (omega arith) (omega arith) k (omega arith) in
    (place (named_so e.rd_fits)).within (codes "0x" ++ digits 16 false k) false k (inr (digits 16 false k, (refl, hex))) (omega arith)
    ∙ ap (λ n. stated_alone (say.One (make n))) back

-- an address, or a word
eight_read : {below : ℕ} {excepted : List ℕ → Bool} {line : List ℕ → List ℕ} {statement : ℕ → Statement} (n : ℕ) → n < 2 ^ 32
    → TakesNumbers below 4294967295 excepted line statement → read (line (codes "0x" ++ eight_digits n)) ≡ stated_alone (statement n)
eight_read n l place = place.within (codes "0x" ++ eight_digits n) false n (inr (eight_digits n, (refl, eight_write n l))) (omega arith)

branch_read : (name : List ℕ) (condition : Condition) (pc : ℕ) {opcode funct3 rs1 rs2 offset word : ℕ}
    → mnemonic_of name ≡ Some (Branch condition) → BType opcode funct3 rs1 rs2 offset word
    → read (branch_text name rs1 rs2 (sum pc offset)) ≡ stated_alone (say.Branch condition rs1 rs2 (Address (sum pc offset)))
branch_read name condition pc {offset = offset} w e =
    eight_read (sum pc offset) (omega arith) (number_ranges.branch name _ _ condition _ _ w (named_so e.rs1_fits) (named_so e.rs2_fits))

-- ---- a fence

set_is : (n : ℕ) → n < 16 → not (n == 0) ≡ true → IsOperand (set_text n) × (set_in (set_text n) ≡ Ok n)
unfolding all_below is_index
set_is n l some =
    let all = all_below_at (λ n. (n == 0) || (is_plain (set_text n) && is_index (named sets (set_text n)) n)) 16 n refl l in
    let s = and_parts (is_plain (set_text n)) _ (rw (not-true (n == 0) some) at all) in
    (plain_operand (set_text n) s.0, ap or_bad (index_is (named sets (set_text n)) n s.1))

plain_parts : (fm before after rd rs1 : ℕ) → is_plain_fence fm before after rd rs1 ≡ true
    → (fm ≡ 0) × (rd ≡ 0) × (rs1 ≡ 0) × (not (before == 0) ≡ true) × (not (after == 0) ≡ true)
plain_parts fm before after rd rs1 h = grind (arith, nat_tests)

plain_read : (fm before after rd rs1 : ℕ) → before < 16 → after < 16 → is_plain_fence fm before after rd rs1 ≡ true
    → read (with_two (codes "fence") (set_text before) (set_text after)) ≡ stated_alone (say.One (i.Fence fm before after rd rs1))
plain_read fm before after rd rs1 l1 l2 plain =
    let p = plain_parts fm before after rd rs1 plain in
    let x = set_is before l1 p.3 in
    let y = set_is after l2 p.4 in
    rw (p.0, p.1, p.2) (two_means (codes "fence") refl x.0 y.0 (two_ok (λ before after. one (fence_of before after)) x.1 y.1))

fence_read : (fm before after rd rs1 word : ℕ) (text : List ℕ) → FenceType 0b0001111 0b000 fm before after rd rs1 word
    → HasText (i.Fence fm before after rd rs1) 0 text → read text ≡ stated_alone (statement_of (i.Fence fm before after rd rs1) 0 word)
fence_read fm before after rd rs1 word text e h =
    ⊎_elim (λ t. rw t (ap read (MatchBool-at_true _ _ t h) ∙ plain_read fm before after rd rs1 e.before_fits e.after_fits t))
    (λ t. rw t (ap read (MatchBool-at_false _ _ t h word e) ∙ eight_read word (omega arith) directives_say.word_is))
    (cases_Bool (is_plain_fence fm before after rd rs1))

-- ---- each instruction

pub texts_read : TextsAreRead
texts_read (i.Lui rd imm) pc word text h e = ap read h ∙ upper_read (codes "lui") (λ imm. i.Lui rd imm) e (number_ranges.lui _ rd)
texts_read (i.Auipc rd imm) pc word text h e = ap read h ∙ upper_read (codes "auipc") (λ imm. i.Auipc rd imm) e (number_ranges.auipc _ rd)
texts_read (i.Jal rd offset) pc word text h e =
    ap read h ∙ eight_read (sum pc offset) (omega arith) (number_ranges.jump _ rd (named_so e.rd_fits))
texts_read (i.Jalr rd rs1 imm) pc word text h e = ap read h ∙ immediate_read e (number_ranges.jalr _ _ _ _)
texts_read (i.Beq rs1 rs2 offset) pc word text h e = ap read h ∙ branch_read (codes "beq") c.Equal pc refl e
texts_read (i.Bne rs1 rs2 offset) pc word text h e = ap read h ∙ branch_read (codes "bne") c.NotEqual pc refl e
texts_read (i.Blt rs1 rs2 offset) pc word text h e = ap read h ∙ branch_read (codes "blt") c.LessThan pc refl e
texts_read (i.Bge rs1 rs2 offset) pc word text h e = ap read h ∙ branch_read (codes "bge") c.GreaterOrEqual pc refl e
texts_read (i.Bltu rs1 rs2 offset) pc word text h e = ap read h ∙ branch_read (codes "bltu") c.LessThanUnsigned pc refl e
texts_read (i.Bgeu rs1 rs2 offset) pc word text h e = ap read h ∙ branch_read (codes "bgeu") c.GreaterOrEqualUnsigned pc refl e
texts_read (i.Lb rd rs1 imm) pc word text h e = ap read h ∙ immediate_read e (number_ranges.load (codes "lb") _ _ m.Lb _ _ refl)
texts_read (i.Lh rd rs1 imm) pc word text h e = ap read h ∙ immediate_read e (number_ranges.load (codes "lh") _ _ m.Lh _ _ refl)
texts_read (i.Lw rd rs1 imm) pc word text h e = ap read h ∙ immediate_read e (number_ranges.load (codes "lw") _ _ m.Lw _ _ refl)
texts_read (i.Lbu rd rs1 imm) pc word text h e = ap read h ∙ immediate_read e (number_ranges.load (codes "lbu") _ _ m.Lbu _ _ refl)
texts_read (i.Lhu rd rs1 imm) pc word text h e = ap read h ∙ immediate_read e (number_ranges.load (codes "lhu") _ _ m.Lhu _ _ refl)
texts_read (i.Sb rs1 rs2 imm) pc word text h e = ap read h ∙ store_read (codes "sb") t.Sb refl e
texts_read (i.Sh rs1 rs2 imm) pc word text h e = ap read h ∙ store_read (codes "sh") t.Sh refl e
texts_read (i.Sw rs1 rs2 imm) pc word text h e = ap read h ∙ store_read (codes "sw") t.Sw refl e
texts_read (i.Addi rd rs1 imm) pc word text h e = ap read h ∙ immediate_read e (number_ranges.immediate (codes "addi") _ _ m.Addi _ _ refl)
texts_read (i.Slti rd rs1 imm) pc word text h e = ap read h ∙ immediate_read e (number_ranges.immediate (codes "slti") _ _ m.Slti _ _ refl)
texts_read (i.Sltiu rd rs1 imm) pc word text h e = ap read h ∙ immediate_read e (number_ranges.immediate (codes "sltiu") _ _ m.Sltiu _ _ refl)
texts_read (i.Xori rd rs1 imm) pc word text h e = ap read h ∙ immediate_read e (number_ranges.immediate (codes "xori") _ _ m.Xori _ _ refl)
texts_read (i.Ori rd rs1 imm) pc word text h e = ap read h ∙ immediate_read e (number_ranges.immediate (codes "ori") _ _ m.Ori _ _ refl)
texts_read (i.Andi rd rs1 imm) pc word text h e = ap read h ∙ immediate_read e (number_ranges.immediate (codes "andi") _ _ m.Andi _ _ refl)
texts_read (i.Slli rd rs1 shamt) pc word text h e = ap read h ∙ shift_read (codes "slli") s.Slli refl e
texts_read (i.Srli rd rs1 shamt) pc word text h e = ap read h ∙ shift_read (codes "srli") s.Srli refl e
texts_read (i.Srai rd rs1 shamt) pc word text h e = ap read h ∙ shift_read (codes "srai") s.Srai refl e
texts_read (i.Add rd rs1 rs2) pc word text h e = ap read h ∙ registers_read (codes "add") r.Add refl e
texts_read (i.Sub rd rs1 rs2) pc word text h e = ap read h ∙ registers_read (codes "sub") r.Sub refl e
texts_read (i.Sll rd rs1 rs2) pc word text h e = ap read h ∙ registers_read (codes "sll") r.Sll refl e
texts_read (i.Slt rd rs1 rs2) pc word text h e = ap read h ∙ registers_read (codes "slt") r.Slt refl e
texts_read (i.Sltu rd rs1 rs2) pc word text h e = ap read h ∙ registers_read (codes "sltu") r.Sltu refl e
texts_read (i.Xor rd rs1 rs2) pc word text h e = ap read h ∙ registers_read (codes "xor") r.Xor refl e
texts_read (i.Srl rd rs1 rs2) pc word text h e = ap read h ∙ registers_read (codes "srl") r.Srl refl e
texts_read (i.Sra rd rs1 rs2) pc word text h e = ap read h ∙ registers_read (codes "sra") r.Sra refl e
texts_read (i.Or rd rs1 rs2) pc word text h e = ap read h ∙ registers_read (codes "or") r.Or refl e
texts_read (i.And rd rs1 rs2) pc word text h e = ap read h ∙ registers_read (codes "and") r.And refl e
texts_read (i.Fence fm before after rd rs1) pc word text h e = fence_read fm before after rd rs1 word text e h
texts_read i.Ecall pc word text h e = ap read h ∙ list_means (codes "ecall") [] refl tt refl
texts_read i.Ebreak pc word text h e = ap read h ∙ list_means (codes "ebreak") [] refl tt refl
