-- A text with which nothing is wrong has an image: the one that is computed of it.
use Rattle.assembler.proofs.Common.{[], address_of, and_parts, and_then, ap, AreParts, AreWords, arith, AsmError, AsmErrorKind, AssembledIsPlaced, branch_instruction, branch_offset, call, code_bytes, Coded, coded_branch, coded_jump, Condition, Contained, content_at, content_error, content_of, distance, distance_of, end_of_line, Err, error_by, first_address, first_of, image_by, immediate_instruction, ImmediateOperation, Instr, IsContent, IsPart, IsWord, items_bytes, jump_offset, Label, labels_in, Line, line_then, LineError, lines, List, load_address, lower, lower_part, memory_end, nat_lt, nat_tests, None, Ok, one, Option, part_of, parts_of, place_error, Placed, placed, places, plain, read, read_by, read_lines, refl, Result, says_nothing, Some, source, Source, Statement, store_instruction, store_lower, StoreOperation, target_of, true, upper, upper_part, whole_error, word_bytes, wrong_in, ℕ, ◌%◌, ◌&&◌, ◌+◌, ◌<◌, ◌==◌, ◌^◌, ◌∙◌, ◌∷◌, ◌≡◌}
use Rattle.rv32i.specs.Words.{word_of}
use Rattle.rv32i.specs.declared.instr.Instr.TheVariants as i
use Rattle.statements.specs.declared.statement.Statement.TheVariants as say
use Rattle.statements.specs.declared.statement.Target.{Target}
use Rattle.assembler.specs.Assembled.{assembled}
use Rattle.assembler.specs.Program.{read_text}
use Rattle.assembler.specs.declared.error.AsmErrorKind.TheVariants as k
use Rattle.assembler.proofs.Encoded.{branch_fits, encoded, Fits, immediate_fits, IsBranchOffset, IsJumpOffset, IsRegister, store_fits}
use Rattle.assembler.proofs.Ranges.{either, Gives, IsCoded, IsCodedAt, line_is_coded, lower_is, upper_is, where_true}
use Rattle.assembler.proofs.Rising.{parted}

-- ---- the bytes of instructions whose operands fit

abbrev AllFit : List Instr → Type 0
AllFit [] = Unit {0}
AllFit (instruction ∷ others) = Fits instruction × AllFit others

words_right : (list : List Instr) → AllFit list → AreWords list (code_bytes list)
words_right [] h = refl
words_right (instruction ∷ others) (h, hs) =
    let is : IsWord instruction (word_bytes (word_of instruction)) = record {
      word = word_of instruction;
      encodes = encoded instruction h;
      low_first = refl;
    } in
    (word_bytes (word_of instruction), code_bytes others, is, words_right others hs, refl)

-- ---- what a statement puts into memory

-- where nothing is wrong with it, the bytes that are computed of it are right
abbrev IsRight : Contained → Type 0
IsRight (Ok content) = IsContent content (part_of (Ok content))
IsRight (Err kind) = Unit {0}

then_right : {A B : Type 0} (P : B → Type 0) (x : Result A AsmErrorKind) (f : A → Result B AsmErrorKind) → ((a : A) → Gives P (f a))
    → Gives P (and_then x f)
then_right P (Ok a) f h = h a
then_right P (Err kind) f h = tt

then_both : {A B : Type 0} (P : A → Type 0) (Q : B → Type 0) (x : Result A AsmErrorKind) (f : A → Result B AsmErrorKind) → Gives P x
    → ((a : A) → P a → Gives Q (f a)) → Gives Q (and_then x f)
then_both P Q (Ok a) f x h = h a x
then_both P Q (Err kind) f x h = tt

one_right : (coded : Coded) → Gives Fits coded → IsRight (one coded)
one_right (Ok instruction) h = words_right (instruction ∷ []) (h, tt)
one_right (Err kind) h = tt

near_branch : (far : ℕ) → far < 2 ^ 32 → (nat_lt ((far + 4096) % 2 ^ 32) 8192 && (far % 2 == 0)) ≡ true → IsBranchOffset far
near_branch far l t =
    let both = and_parts (nat_lt ((far + 4096) % 2 ^ 32) 8192) (far % 2 == 0) t in
    let near = both.0 in
    let even = both.1 in
    record { fits = l; near = grind (arith, nat_tests); even = grind (arith, nat_tests) }

near_jump : (far : ℕ) → far < 2 ^ 32 → (nat_lt ((far + 1048576) % 2 ^ 32) 2097152 && (far % 2 == 0)) ≡ true → IsJumpOffset far
near_jump far l t =
    let both = and_parts (nat_lt ((far + 1048576) % 2 ^ 32) 2097152) (far % 2 == 0) t in
    let near = both.0 in
    let even = both.1 in
    record { fits = l; near = grind (arith, nat_tests); even = grind (arith, nat_tests) }

distance_fits : (target address : ℕ) → distance target address < 2 ^ 32
distance_fits target address = omega arith

branch_gives : (far : ℕ) → far < 2 ^ 32 → Gives IsBranchOffset (branch_offset far)
branch_gives far l = where_true IsBranchOffset (nat_lt ((far + 4096) % 2 ^ 32) 8192 && (far % 2 == 0)) far k.OutOfRange (near_branch far l)

jump_gives : (far : ℕ) → far < 2 ^ 32 → Gives IsJumpOffset (jump_offset far)
jump_gives far l = where_true IsJumpOffset (nat_lt ((far + 1048576) % 2 ^ 32) 2097152 && (far % 2 == 0)) far k.OutOfRange (near_jump far l)

jump_right : (labels : List Label) (address rd : ℕ) (target : Target) → IsRegister rd
    → Gives Fits (coded_jump labels address rd target)
jump_right labels address rd target d =
    then_right Fits (target_of labels target) (λ to. and_then (jump_offset (distance to address)) (λ offset. Ok (i.Jal rd offset)))
    (λ to. then_both IsJumpOffset Fits (jump_offset (distance to address)) (λ offset. Ok (i.Jal rd offset))
    (jump_gives (distance to address) (distance_fits to address)) (λ offset h. (d, h)))

branch_right : (labels : List Label) (address : ℕ) (condition : Condition) (rs1 rs2 : ℕ) (target : Target) → IsRegister rs1
    → IsRegister rs2 → Gives Fits (coded_branch labels address condition rs1 rs2 target)
branch_right labels address condition rs1 rs2 target a b =
    then_right Fits (target_of labels target)
    (λ to. and_then (branch_offset (distance to address)) (λ offset. Ok (branch_instruction condition rs1 rs2 offset)))
    (λ to. then_both IsBranchOffset Fits (branch_offset (distance to address))
    (λ offset. Ok (branch_instruction condition rs1 rs2 offset))
    (branch_gives (distance to address) (distance_fits to address)) (λ offset h. branch_fits condition rs1 rs2 offset a b h))

upper_right : (labels : List Label) (rd : ℕ) (label : List ℕ) → IsRegister rd → Gives Fits (upper labels rd label)
upper_right labels rd label d =
    then_right Fits (address_of labels label) (λ to. Ok (i.Lui rd (upper_part to)))
    (λ to. (d, upper_is to))

lower_right : (labels : List Label) (operation : ImmediateOperation) (rd rs1 : ℕ) (label : List ℕ) → IsRegister rd → IsRegister rs1
    → Gives Fits (lower labels operation rd rs1 label)
lower_right labels operation rd rs1 label d a =
    then_right Fits (address_of labels label) (λ to. Ok (immediate_instruction operation rd rs1 (lower_part to)))
    (λ to. immediate_fits operation rd rs1 (lower_part to) d a (lower_is to))

store_right : (labels : List Label) (operation : StoreOperation) (rs1 rs2 : ℕ) (label : List ℕ) → IsRegister rs1 → IsRegister rs2
    → Gives Fits (store_lower labels operation rs1 rs2 label)
store_right labels operation rs1 rs2 label a b =
    then_right Fits (address_of labels label) (λ to. Ok (store_instruction operation rs1 rs2 (lower_part to)))
    (λ to. store_fits operation rs1 rs2 (lower_part to) a b (lower_is to))

load_right : (rd : ℕ) (far : Result ℕ AsmErrorKind) → IsRegister rd → IsRight (load_address rd far)
load_right rd (Ok far) d =
    words_right (i.Auipc rd (upper_part far) ∷ i.Addi rd rd (lower_part far) ∷ [])
    ((d, upper_is far), ((d, d, lower_is far), tt))
load_right rd (Err kind) d = tt

call_right : (far : Result ℕ AsmErrorKind) → IsRight (call far)
call_right (Ok far) =
    let link : IsRegister 1 = omega arith in
    words_right (i.Auipc 1 (upper_part far) ∷ i.Jalr 1 1 (lower_part far) ∷ [])
    ((link, upper_is far), ((link, link, lower_is far), tt))
call_right (Err kind) = tt

plain_right : (bytes : Result (List ℕ) AsmErrorKind) → IsRight (plain bytes)
plain_right (Ok bytes) = refl
plain_right (Err kind) = tt

content_right : (labels : List Label) (address : ℕ) (statement : Statement) → IsCoded statement
    → IsRight (content_of labels address statement)
content_right labels address (say.One instruction) h = words_right (instruction ∷ []) (h, tt)
content_right labels address (say.Two first second) (h, g) = words_right (first ∷ second ∷ []) (h, (g, tt))
content_right labels address (say.Jump rd target) h =
    one_right (coded_jump labels address rd target) (jump_right labels address rd target h)
content_right labels address (say.Branch condition rs1 rs2 target) (h, g) =
    one_right (coded_branch labels address condition rs1 rs2 target) (branch_right labels address condition rs1 rs2 target h g)
content_right labels address (say.Upper rd label) h = one_right (upper labels rd label) (upper_right labels rd label h)
content_right labels address (say.Lower operation rd rs1 label) (h, g) =
    one_right (lower labels operation rd rs1 label) (lower_right labels operation rd rs1 label h g)
content_right labels address (say.StoreLower operation rs1 rs2 label) (h, g) =
    one_right (store_lower labels operation rs1 rs2 label) (store_right labels operation rs1 rs2 label h g)
content_right labels address (say.LoadAddress rd label) h = load_right rd (distance_of labels address label) h
content_right labels address (say.Call label) h = call_right (distance_of labels address label)
content_right labels address (say.Data width items) h = plain_right (items_bytes labels width items)
content_right labels address _ h = refl

content_at_right : (labels : List Label) (address : ℕ) (statement : Option Statement) → IsCodedAt statement
    → IsRight (content_at labels address statement)
content_at_right labels address None h = refl
content_at_right labels address (Some statement) h = content_right labels address statement h

part_right : (contained : Contained) → IsRight contained → wrong_in contained ≡ None → IsPart contained (part_of contained)
part_right (Ok content) h e = h
part_right (Err kind) h e = absurd (let no : Some kind ≡ None = e in cc)

-- ---- programs

abbrev AreCoded : List Source → Type 0
AreCoded [] = Unit {0}
AreCoded (source ∷ others) = IsCodedAt source.line.statement × AreCoded others

parts_right : (labels : List Label) (address : ℕ) (program : List Source) → AreCoded program
    → content_error labels (places address program) ≡ None
    → AreParts labels (places address program) (parts_of labels (places address program))
parts_right labels address [] h e = refl
parts_right labels address (source ∷ others) (h, hs) e =
    let content = content_at labels address source.line.statement in
    let right = parted source.number (wrong_in content) (content_error labels (places (end_of_line source address) others)) e in (
      part_of content,
      parts_of labels (places (end_of_line source address) others),
      part_right content (content_at_right labels address source.line.statement h) right.0,
      parts_right labels (end_of_line source address) others hs right.1,
      refl,
    )

then_coded : (number : ℕ) (line : Result Line LineError) (others : Result (List Source) AsmError)
    → Gives (λ (l : Line). IsCodedAt l.statement) line → Gives AreCoded others → Gives AreCoded (line_then number line others)
then_coded number (Err error) others l h = tt
then_coded number (Ok line) (Err error) l h = tt
then_coded number (Ok line) (Ok others) l h = either AreCoded (says_nothing line) others (source number line ∷ others) h (l, h)

lines_coded : (number : ℕ) (list : List (List ℕ)) → Gives AreCoded (read_lines number list)
lines_coded number [] = tt
lines_coded number (line ∷ others) =
    then_coded number (read line) (read_lines (number + 1) others) (line_is_coded line) (lines_coded (number + 1) others)

read_coded : (wrong : Option AsmError) (text : List ℕ) → Gives AreCoded (read_by wrong text)
read_coded (Some error) text = tt
read_coded None text = lines_coded 1 (lines text)

text_coded : (text : List ℕ) → Gives AreCoded (read_text text)
unfolding read_text
text_coded text = read_coded (whole_error text) text

-- ---- the image

both_none : (one other : Option AsmError) → first_of one other ≡ None → other ≡ None
both_none None other h = h
both_none (Some error) other h = cc

placed_so : (text : List ℕ) (size : ℕ) (result : Result (List Source) AsmError) → read_text text ≡ result → Gives AreCoded result
    → error_by size result ≡ None → Placed text size (image_by result)
placed_so text size (Err error) r h e = absurd (let no : Some error ≡ None = e in cc)
placed_so text size (Ok program) r h e =
    let labels = labels_in (placed program) in
    record {
      right = ap (error_by size) r ∙ e;
      program = program;
      read = r;
      bytes =
          parts_right labels first_address program h
          (both_none (place_error (memory_end size) [] (placed program)) (content_error labels (placed program)) e);
      entry = refl;
      rows = refl;
      labels = refl;
      end = refl;
    }

pub placed_whole : AssembledIsPlaced
unfolding assembled
placed_whole text size h = placed_so text size (read_text text) refl (text_coded text) h
