-- The body that answers `disassemble`: the instructions at an address (DAP specification, `DisassembleResponse`,
-- `DisassembledInstruction`).
--
-- Where memory has a word, there is its text and there are its bytes. Where it has none, the entry says so in place of
-- a text, and an editor may know it by its hint (`DisassembledInstruction.presentationHint`), which no other entry has.
use Rattle.std.specs.Prelude.{ℕ, List, Option, Some, Bool, ◌⊎◌, is_some, not, codes}
use mathlib.Core.Logic.{inl, inr}
use Rattle.serde_json.specs.Data.{Data, string}
use Rattle.serde_json.specs.Find.{get}
use Rattle.message_parts.specs.Addresses.{address}
use Rattle.message_parts.specs.Forms.{Form, Fields, object_of, none, field, fixed, either, made_of, text, list}
use Rattle.message_parts.specs.InstructionBytes.{instruction_bytes}
use Rattle.message_parts.specs.declared.disassemble.Instruction.{Instruction}
use Rattle.message_parts.specs.declared.disassemble.Instruction.TheVariants.{Valid, Invalid}
use Rattle.message_parts.specs.declared.disassemble.Disassemble.{Disassemble}

-- a word of memory
abbrev pub valid : Fields (ℕ × (List ℕ × (ℕ × Unit {0})))
valid = field (codes "address") address
    (field (codes "instruction") text
    (field (codes "instructionBytes") instruction_bytes none))

-- no word
abbrev pub invalid : Fields (ℕ × Unit {0})
invalid = field (codes "address") address
    (fixed (codes "instruction") (string (codes "(invalid)"))
    (fixed (codes "presentationHint") (string (codes "invalid")) none))

abbrev pub is_valid : Data → Option Bool
is_valid value = Some (not (is_some (get (codes "presentationHint") value)))

abbrev pub parts : Instruction → (ℕ × (List ℕ × (ℕ × Unit {0}))) ⊎ (ℕ × Unit {0})
parts (Valid address instruction word) = inl (address, (instruction, (word, tt)))
parts (Invalid address) = inr (address, tt)

abbrev pub made : (ℕ × (List ℕ × (ℕ × Unit {0}))) ⊎ (ℕ × Unit {0}) → Option Instruction
made (inl p) = Some (Valid p.0 p.1.0 p.1.1.0)
made (inr p) = Some (Invalid p.0)

-- an entry
abbrev pub instruction : Form Instruction
instruction = made_of parts made (either is_valid valid invalid)

-- the body
abbrev pub disassemble : Form Disassemble
disassemble = made_of (λ d. (d.instructions, tt)) (λ p. Some (record { instructions = p.0 }))
    (object_of (field (codes "instructions") (list instruction) none))
