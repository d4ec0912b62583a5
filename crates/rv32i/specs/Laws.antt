-- What holds of every word and of every machine. Each of these statements is the contract of a function of the
-- module `laws`.
use Rattle.std.specs.Prelude.{◌≡◌, ◌↔◌, ◌≤ℤ◌, ℕ, ℤ, pos, neg_ℤ, List, Option, Result, Ok, Err, IsOk, slice_index, ⊤}
use Rattle.std.specs.declared.alloc.AllocError.{AllocError}
use Rattle.rv32i.specs.Encoding.{Encodes, IsDecoding}
use Rattle.rv32i.specs.Machine.{Machine, Effect, IsMove}
use Rattle.rv32i.specs.Names.{Names}
use Rattle.rv32i.specs.Texts.{IsTextOf}
use Rattle.rv32i.specs.Words.{word_of}
use Rattle.rv32i.specs.declared.instr.Instr.{Instr}
use Rattle.rv32i.specs.declared.stepped.Stepped.{Stepped}
use Rattle.rv32i.specs.declared.stepped.Stepped.TheVariants.{Retired, Printed, Break, Exit, Trap}

-- A word encodes at most one instruction.
abbrev pub InstructionIsUnique : Type 0
InstructionIsUnique = (word : ℕ) (i j : Instr) → Encodes i word → Encodes j word → i ≡ j

-- An instruction has at most one word.
abbrev pub EncodingIsUnique : Type 0
EncodingIsUnique = (i : Instr) (word other : ℕ) → Encodes i word → Encodes i other → word ≡ other

-- It is the one that is computed of the instruction.
abbrev pub WordIsComputed : Type 0
WordIsComputed = (i : Instr) (word : ℕ) → Encodes i word → word ≡ word_of i

-- A machine has at most one move: its pc, its registers and its memory settle what a step answers and leaves.
abbrev pub MoveIsDeterministic : Type 0
MoveIsDeterministic = (before : Machine) (effect other : Effect) → IsMove before effect → IsMove before other →
    effect ≡ other

-- A word at an address has at most one disassembly.
abbrev pub TextIsUnique : Type 0
TextIsUnique = (word pc : ℕ) (text other : List ℕ) → IsTextOf word pc text → IsTextOf word pc other → text ≡ other

-- A word has a decoding.
pub record HasDecoding (word : ℕ) : Type 0 where
  pub instr : Option Instr
  pub is : IsDecoding word instr

-- Each word has one.
abbrev pub EachWordIsDecoded : Type 0
EachWordIsDecoded = (word : ℕ) → HasDecoding word

-- A word is decoded to what this decoding of it says, and to nothing else. So nobody has to know how it was found.
abbrev pub DecodingIsUnique : Type 0
DecodingIsUnique = (word : ℕ) (decoding : HasDecoding word) (instr : Option Instr) →
    IsDecoding word instr ↔ (instr ≡ decoding.instr)

-- A machine has a move: what a step of it answers and leaves. The move keeps x0 at 0.
pub record HasMove (m : Machine) : Type 0 where
  pub effect : Effect
  pub is : IsMove m effect
  pub zero : slice_index m.x 0 ≡ 0 → slice_index effect.machine.x 0 ≡ 0

-- Each machine has one.
abbrev pub EachMachineMoves : Type 0
EachMachineMoves = (m : Machine) → HasMove m

-- A move is answered: it never says that no memory is left.
abbrev pub MovesAnswer : Type 0
MovesAnswer = (before : Machine) (effect : Effect) → IsMove before effect → IsOk effect.answer

-- What an exit answers is a code of 32 bits, one of them for its sign.
pub record IsSignedWord (code : ℤ) : Type 0 where
  pub least : neg_ℤ (pos 2147483648) ≤ℤ code
  pub greatest : code ≤ℤ pos 2147483647

abbrev pub HasCode : Result Stepped AllocError → Type 0
HasCode (Ok (Exit code)) = IsSignedWord code
HasCode (Ok (Trap cause)) = ⊤
HasCode (Ok (Printed number)) = ⊤
HasCode (Ok Retired) = ⊤
HasCode (Ok Break) = ⊤
HasCode (Err error) = ⊤

-- The code of an exit is one, whatever the registers hold.
abbrev pub ExitCodesAreWords : Type 0
ExitCodesAreWords = (before : Machine) (effect : Effect) → IsMove before effect → HasCode effect.answer

-- A name means one register at most.
abbrev pub NameIsUnique : Type 0
NameIsUnique = (name : List ℕ) (number other : ℕ) → Names name number → Names name other → number ≡ other
