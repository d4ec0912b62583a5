-- What a statement puts into memory at its address.
--
-- A name means the address of its label; where no line defines it, that is wrong (Undefined). A jump and a branch
-- hold the distance from their own address, as a signed number of 32 bits; it has to be even, and no more than its
-- field takes (OutOfRange): -1,048,576 to 1,048,574 for JAL, -4,096 to 4,094 for a branch. `%hi` and `%lo` are the two
-- parts of an address; `la` and `call` are the two parts of the distance from their first instruction. Data is
-- little-endian, and as many of the lowest bytes of an item as it has.
use Rattle.std.specs.Prelude.{◌≡◌, ℕ, ◌+◌, ◌-◌, ◌%◌, ◌^◌, ◌==◌, nat_lt, if◌then◌else◌, ◌&&◌, List, [], ◌∷◌, ◌++◌, take}
use Rattle.std.specs.Prelude.{replicate, Option, Some, None, Result, Ok, Err, codes, refl}
use Rattle.image.specs.Memory.{word_bytes}
use Rattle.image.specs.Lines.{Label}
use Rattle.rv32i.specs.Encoding.{Encodes}
use Rattle.rv32i.specs.declared.instr.Instr.{Instr}
use Rattle.rv32i.specs.declared.instr.Instr.TheVariants as i
use Rattle.statements.specs.Operations.{branch_instruction, immediate_instruction, lower_part, store_instruction}
use Rattle.statements.specs.Operations.{upper_part}
use Rattle.statements.specs.Spelling.{named}
use Rattle.statements.specs.declared.items.Item.{Item}
use Rattle.statements.specs.declared.items.Item.TheVariants.{Label as Named, Number}
use Rattle.statements.specs.declared.items.Width.{Width}
use Rattle.statements.specs.declared.items.Width.TheVariants.{Word}
use Rattle.statements.specs.declared.operations.ImmediateOperation.{ImmediateOperation}
use Rattle.statements.specs.declared.operations.StoreOperation.{StoreOperation}
use Rattle.statements.specs.declared.operations.Condition.{Condition}
use Rattle.statements.specs.declared.statement.Statement.{Statement}
use Rattle.statements.specs.declared.statement.Statement.TheVariants as say
use Rattle.statements.specs.declared.statement.Target.{Target}
use Rattle.statements.specs.declared.statement.Target.TheVariants as t
use Rattle.assembler.specs.declared.error.AsmError.{AsmError}
use Rattle.assembler.specs.declared.error.AsmErrorKind.{AsmErrorKind}
use Rattle.assembler.specs.declared.error.AsmErrorKind.TheVariants as k
use Rattle.assembler.specs.Places.{bytes_in, error_at, padding, Place}

-- a part, and then what stands on it, unless something is wrong with it
abbrev pub and_then : {A B : Type 0} → Result A AsmErrorKind → (A → Result B AsmErrorKind) → Result B AsmErrorKind
and_then (Ok a) next = next a
and_then (Err kind) next = Err kind

-- what there is, or that it is not defined
abbrev pub defined : Option ℕ → Result ℕ AsmErrorKind
defined None = Err k.Undefined
defined (Some address) = Ok address

-- the address of a label
abbrev pub address_of : List Label → List ℕ → Result ℕ AsmErrorKind
address_of labels name = defined (named labels name)

-- the address that a target means
abbrev pub target_of : List Label → Target → Result ℕ AsmErrorKind
target_of labels (t.Label name) = address_of labels name
target_of labels (t.Address address) = Ok address

-- how far a target is from an address, as a number of 32 bits
abbrev pub distance : ℕ → ℕ → ℕ
distance target address = (target + (2 ^ 32 - address)) % 2 ^ 32

back_4 : distance 65540 65544 ≡ 0xfffffffc
back_4 = refl

-- an offset that a branch can have
abbrev pub branch_offset : ℕ → Result ℕ AsmErrorKind
branch_offset far = if nat_lt ((far + 4096) % 2 ^ 32) 8192 && (far % 2 == 0) then Ok far else Err k.OutOfRange

farthest_back : branch_offset 0xfffff000 ≡ Ok 0xfffff000
farthest_back = refl

too_far : branch_offset 4096 ≡ Err k.OutOfRange
too_far = refl

-- an offset that JAL can have
abbrev pub jump_offset : ℕ → Result ℕ AsmErrorKind
jump_offset far = if nat_lt ((far + 1048576) % 2 ^ 32) 2097152 && (far % 2 == 0) then Ok far else Err k.OutOfRange

-- ---- instructions

-- an instruction, or what is wrong
abbrev pub Coded : Type 0
Coded = Result Instr AsmErrorKind

-- JAL to a target
abbrev pub coded_jump : List Label → ℕ → ℕ → Target → Coded
coded_jump labels address rd target = and_then (target_of labels target)
    (λ to. and_then (jump_offset (distance to address)) (λ offset. Ok (i.Jal rd offset)))

-- a branch to a target
abbrev pub coded_branch : List Label → ℕ → Condition → ℕ → ℕ → Target → Coded
coded_branch labels address condition rs1 rs2 target = and_then (target_of labels target)
    (λ to. and_then (branch_offset (distance to address)) (λ offset. Ok (branch_instruction condition rs1 rs2 offset)))

-- LUI with the upper part of an address
abbrev pub upper : List Label → ℕ → List ℕ → Coded
upper labels rd label = and_then (address_of labels label) (λ to. Ok (i.Lui rd (upper_part to)))

-- an instruction with the lower part of an address
abbrev pub lower : List Label → ImmediateOperation → ℕ → ℕ → List ℕ → Coded
lower labels operation rd rs1 label =
    and_then (address_of labels label) (λ to. Ok (immediate_instruction operation rd rs1 (lower_part to)))

-- a store at the lower part of an address
abbrev pub store_lower : List Label → StoreOperation → ℕ → ℕ → List ℕ → Coded
store_lower labels operation rs1 rs2 label =
    and_then (address_of labels label) (λ to. Ok (store_instruction operation rs1 rs2 (lower_part to)))

-- how far a label is
abbrev pub distance_of : List Label → ℕ → List ℕ → Result ℕ AsmErrorKind
distance_of labels address label = and_then (address_of labels label) (λ to. Ok (distance to address))

-- ---- data

-- the value of an item
abbrev pub value_of : List Label → Item → Result ℕ AsmErrorKind
value_of labels (Named name) = address_of labels name
value_of labels (Number number) = Ok number

-- as many of the lowest bytes of a value as an item has
abbrev pub item_bytes : Width → ℕ → List ℕ
item_bytes width value = take (bytes_in width) (word_bytes value)

-- bytes before others, unless something is wrong with those
abbrev pub with_more : List ℕ → Result (List ℕ) AsmErrorKind → Result (List ℕ) AsmErrorKind
with_more bytes (Ok more) = Ok (bytes ++ more)
with_more bytes (Err kind) = Err kind

-- the bytes of items
abbrev pub items_bytes : List Label → Width → List Item → Result (List ℕ) AsmErrorKind
items_bytes labels width [] = Ok []
items_bytes labels width (item ∷ items) =
    and_then (value_of labels item) (λ value. with_more (item_bytes width value) (items_bytes labels width items))

-- ---- statements

-- what a statement puts into memory: instructions, or bytes as they are
pub data Content : Type 0 where
  Code : List Instr → Content
  Plain : List ℕ → Content

-- what a statement puts into memory, or what is wrong
abbrev pub Contained : Type 0
Contained = Result Content AsmErrorKind

-- one instruction
abbrev pub one : Coded → Contained
one (Ok instruction) = Ok (Code (instruction ∷ []))
one (Err kind) = Err kind

-- la d, label is auipc d, upper; addi d, d, lower
abbrev pub load_address : ℕ → Result ℕ AsmErrorKind → Contained
load_address rd (Ok far) = Ok (Code (i.Auipc rd (upper_part far) ∷ i.Addi rd rd (lower_part far) ∷ []))
load_address rd (Err kind) = Err kind

-- call label is auipc x1, upper; jalr x1, lower(x1)
abbrev pub call : Result ℕ AsmErrorKind → Contained
call (Ok far) = Ok (Code (i.Auipc 1 (upper_part far) ∷ i.Jalr 1 1 (lower_part far) ∷ []))
call (Err kind) = Err kind

-- bytes as they are
abbrev pub plain : Result (List ℕ) AsmErrorKind → Contained
plain (Ok bytes) = Ok (Plain bytes)
plain (Err kind) = Err kind

-- what a statement at an address puts into memory
abbrev pub content_of : List Label → ℕ → Statement → Contained
content_of labels address (say.One instruction) = Ok (Code (instruction ∷ []))
content_of labels address (say.Two first second) = Ok (Code (first ∷ second ∷ []))
content_of labels address (say.Jump rd target) = one (coded_jump labels address rd target)
content_of labels address (say.Branch condition rs1 rs2 target) =
    one (coded_branch labels address condition rs1 rs2 target)
content_of labels address (say.Upper rd label) = one (upper labels rd label)
content_of labels address (say.Lower operation rd rs1 label) = one (lower labels operation rd rs1 label)
content_of labels address (say.StoreLower operation rs1 rs2 label) = one (store_lower labels operation rs1 rs2 label)
content_of labels address (say.LoadAddress rd label) = load_address rd (distance_of labels address label)
content_of labels address (say.Call label) = call (distance_of labels address label)
content_of labels address (say.Data width items) = plain (items_bytes labels width items)
content_of labels address (say.Space count) = Ok (Plain (replicate count 0))
content_of labels address (say.Align power) = Ok (Plain (replicate (padding (2 ^ power) address) 0))
content_of labels address say.Nothing = Ok (Plain [])

-- the same of a line, which may have no statement
abbrev pub content_at : List Label → ℕ → Option Statement → Contained
content_at labels address None = Ok (Plain [])
content_at labels address (Some statement) = content_of labels address statement

-- `la a0, d` after `d: .word d`: the AUIPC adds 0, and the ADDI goes 4 back
address_of_d : content_of ((codes "d", 65536) ∷ []) 65540 (say.LoadAddress 10 (codes "d"))
    ≡ Ok (Code (i.Auipc 10 0 ∷ i.Addi 10 10 0xfffffffc ∷ []))
address_of_d = refl

bytes_of_d : content_of ((codes "d", 65536) ∷ []) 65536 (say.Data Word (Named (codes "d") ∷ []))
    ≡ Ok (Plain (0 ∷ 0 ∷ 1 ∷ 0 ∷ []))
bytes_of_d = refl

unknown_x : content_of [] 65536 (say.Jump 0 (t.Label (codes "x"))) ≡ Err k.Undefined
unknown_x = refl

-- ---- bytes

-- The bytes of an instruction: its word, which encodes it, the least significant byte first.
pub record IsWord (instruction : Instr) (bytes : List ℕ) : Type 0 where
  pub word : ℕ
  pub encodes : Encodes instruction word
  pub low_first : bytes ≡ word_bytes word

-- the bytes of instructions: the word of each, in order
abbrev pub AreWords : List Instr → List ℕ → Type 0
AreWords [] bytes = bytes ≡ []
AreWords (instruction ∷ others) bytes = (word : List ℕ) × (rest : List ℕ) × IsWord instruction word
    × AreWords others rest × (bytes ≡ word ++ rest)

-- bytes that are right for what is put there
abbrev pub IsContent : Content → List ℕ → Type 0
IsContent (Code instructions) bytes = AreWords instructions bytes
IsContent (Plain plain) bytes = bytes ≡ plain

-- bytes that are right for what a statement puts there, with which nothing is wrong
abbrev pub IsPart : Contained → List ℕ → Type 0
IsPart (Ok content) bytes = IsContent content bytes
IsPart (Err kind) bytes = ⊥

-- The parts of memory: one for each line, in order.
abbrev pub AreParts : List Label → List Place → List ℕ → Type 0
AreParts labels [] bytes = bytes ≡ []
AreParts labels (place ∷ others) bytes = (part : List ℕ) × (rest : List ℕ)
    × IsPart (content_at labels place.address place.source.line.statement) part × AreParts labels others rest
    × (bytes ≡ part ++ rest)

-- what is wrong with a content, if anything
abbrev pub wrong_in : Contained → Option AsmErrorKind
wrong_in (Ok content) = None
wrong_in (Err kind) = Some kind

-- the first error of contents, in the order of the lines
abbrev pub content_error : List Label → List Place → Option AsmError
content_error labels [] = None
content_error labels (place ∷ others) = error_at place.source.number
    (wrong_in (content_at labels place.address place.source.line.statement)) (content_error labels others)
