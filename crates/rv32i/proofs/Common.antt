-- What most proofs here speak of, under one name.
pub use Rattle.image.specs.Memory.{byte_at, bytes_at, fault_at, first_address, halfword_bytes, has_bytes, memory_after, with_bytes, word_at, word_bytes}
pub use Rattle.image.specs.declared.fault.MemFault.{MemFault}
pub use Rattle.image.specs.declared.fault.MemFault.TheVariants.{Misaligned, NoMemory, Outside}
pub use Rattle.rv32i.specs.Encoding.{Encodes, IsDecoding, IsIllegal}
pub use Rattle.rv32i.specs.Formats.{BType, FenceType, IType, JType, RType, SType, UType}
pub use Rattle.rv32i.specs.Laws.{ExitCodesAreWords, HasCode, HasDecoding, HasMove, MovesAnswer, NameIsUnique, TextIsUnique}
pub use Rattle.rv32i.specs.Machine.{branches, calls, Effect, effect_of, fetch_fault, gives, IsDecodedAtPc, IsMove, jumps, Keeps, linked, loads_unless, Machine, machine_of, MoveNeedsPage, retired, signed, stores_unless, sum, trapped, value, with_register}
pub use Rattle.rv32i.specs.Names.{name_of, Names, number_named, numbered_name_of}
pub use Rattle.rv32i.specs.Texts.{Coded, HasText, is_plain_fence, with_three, with_two, word_text}
pub use Rattle.rv32i.specs.declared.instr.Instr.{Instr}
pub use Rattle.rv32i.specs.declared.instr.Instr.TheVariants.{Add, Addi, And, Andi, Auipc, Beq, Bge, Bgeu, Blt, Bltu, Bne, Ebreak, Ecall, Fence, Jal, Jalr, Lb, Lbu, Lh, Lhu, Lui, Lw, Or, Ori, Sb, Sh, Sll, Slli, Slt, Slti, Sltiu, Sltu, Sra, Srai, Srl, Srli, Sub, Sw, Xor, Xori}
pub use Rattle.rv32i.specs.declared.stepped.Cause.TheVariants.{FetchOutside, Illegal, JumpMisaligned, LoadMisaligned, LoadOutside, StoreMisaligned, StoreOutside, UnknownCall}
pub use Rattle.rv32i.specs.declared.stepped.Stepped.TheVariants.{Break, Exit, Printed, Retired, Trap}
pub use Rattle.std.proofs.Common.{[], ap, append_assoc, arith, Bool, cond, Decides, drop, eqb, eqb-true, Err, false, IfOk, inl, inr, int_eq, IsTrue, leb, length, length-append, List, lit<, lt-ltb, ltb, ltb-true, None, not, Ok, Option, pos, refl, Result, Some, subst, suc, sym, take, true, zero, ℕ, ℤ, ◌%◌, ◌&&◌, ◌*◌, ◌++◌, ◌+◌, ◌-◌, ◌/◌, ◌<◌, ◌==◌, ◌^◌, ◌||◌, ◌∙◌, ◌∷◌, ◌≡◌, ◌≤◌, ◌⊎◌}
pub use Rattle.std.proofs.lemmas.Bool.Decides.{Decides-eqb, Decides-int_eq, nat_tests, not_from_Decides}
pub use Rattle.std.proofs.lemmas.List.{drop-drop, drop_at, get_or-set_other, length-drop, length-take-le, set-get_or, set-set, take-append-drop, take_at}
pub use Rattle.std.specs.Prelude.{alloc_error, bytes_eq, codes, find, is_ok, MatchResult, OnErr, OnOk, slice_get, slice_index, slice_set}
