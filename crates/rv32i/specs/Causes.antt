-- The names of exceptions (RISC-V Privileged ISA, table of `mcause`).
use Rattle.std.specs.Prelude.{ℕ, List, codes}
use Rattle.rv32i.specs.declared.stepped.Cause.{Cause}
use Rattle.rv32i.specs.declared.stepped.Cause.TheVariants as cause

-- the name of an exception, in the words of that table; an unknown environment call, which is not there, has its own
abbrev pub cause_text : Cause → List ℕ
cause_text cause.FetchOutside = codes "instruction access fault"
cause_text cause.Illegal = codes "illegal instruction"
cause_text cause.JumpMisaligned = codes "instruction address misaligned"
cause_text cause.LoadMisaligned = codes "load address misaligned"
cause_text cause.LoadOutside = codes "load access fault"
cause_text cause.StoreMisaligned = codes "store address misaligned"
cause_text cause.StoreOutside = codes "store access fault"
cause_text cause.UnknownCall = codes "unknown environment call"
