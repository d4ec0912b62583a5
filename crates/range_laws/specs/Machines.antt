-- Words and bytes (RISC-V Unprivileged ISA 20191213, sections 1.4 and 2.1).
--
-- A hart of RV32I has registers of 32 bits, and memory is bytes of 8. What a step does is defined on numbers of any size
-- (`Machine` of `rv32i`): sums wrap, bytes are cut out of words, and nothing else keeps a number small. So it is a law,
-- and no part of the definition, that numbers stay in their ranges: of a machine whose pc and registers are words, and
-- whose memory is bytes, each move leaves such a machine. The immediate of an instruction is a word since it was decoded
-- from one.
use Rattle.std.specs.Prelude.{◌≡◌, ℕ, ◌<◌, ◌^◌, List, length, All}
use Rattle.rv32i.specs.Machine.{Effect, IsMove, Machine}

-- a number of 32 bits
abbrev pub IsWord : ℕ → Type 0
IsWord w = w < 2 ^ 32

-- a number of 8 bits
abbrev pub IsByte : ℕ → Type 0
IsByte b = b < 2 ^ 8

-- words
abbrev pub AreWords : List ℕ → Type 0
AreWords list = All IsWord list

-- bytes
abbrev pub AreBytes : List ℕ → Type 0
AreBytes list = All IsByte list

-- 32 registers, all of them words
pub record AreRegisters (x : List ℕ) : Type 0 where
  pub count : length x ≡ 32
  pub words : AreWords x

-- A machine whose pc and registers are words, and whose memory is bytes.
pub record InRange (m : Machine) : Type 0 where
  pub pc : IsWord m.pc
  pub x : AreRegisters m.x
  pub memory : AreBytes m.memory

-- Each move of such a machine leaves one.
abbrev pub MovesStayInRange : Type 0
MovesStayInRange = (before : Machine) (effect : Effect) → IsMove before effect → InRange before → InRange effect.machine
