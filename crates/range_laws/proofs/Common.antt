-- What most proofs here speak of, under one name.
pub use Rattle.image.specs.Memory.{bytes_at, fault_at, first_address, halfword_bytes, has_bytes, little_endian, memory_after, unless_fault, with_bytes, word_at, word_bytes}
pub use Rattle.range_laws.specs.Debugging.{CallsInRange, DebuggedInRange, HartInRange, HartsStayInRange, ImageInRange, LoadedIsInRange, PositionInRange, ReloadedIsInRange, TicksStayInRange, WritesStayInRange}
pub use Rattle.range_laws.specs.Machines.{AreBytes, AreRegisters, AreWords, InRange, IsByte, IsWord, MovesStayInRange}
pub use Rattle.rv32i.specs.Machine.{branches, byte_extended, calls, difference, Effect, effect_of, fetch_fault, flag, gives, halfword_extended, jumps, linked, loads_unless, Machine, machine_of, places, retired, shifted_left, shifted_right, shifted_right_signed, signed, stores_unless, sum, trapped, value, with_register}
pub use Rattle.rv32i.specs.declared.instr.Instr.{Instr}
pub use Rattle.std.proofs.Common.{[], ap, arith, Bool, cond, eqb, Err, false, IfOk, IfSome, inl, inr, length, List, lit<, ltb, ltb-true, map, None, Ok, Option, refl, Result, Some, subst, suc, sym, true, zero, ℕ, ◌%◌, ◌*◌, ◌++◌, ◌+◌, ◌-◌, ◌/◌, ◌<◌, ◌^◌, ◌∷◌, ◌≡◌, ◌≤◌, ◌⊎◌}
pub use Rattle.std.proofs.lemmas.Bool.Decides.{nat_tests}
pub use Rattle.std.proofs.lemmas.List.{get_or_past, length-drop, length-set, length-take}
pub use Rattle.std.proofs.lemmas.List.Elements.{All-append, All-cons, All-drop, All-get_or, All-head, All-nil, All-replicate, All-set, All-tail, All-take}
pub use Rattle.std.specs.Prelude.{All, bit_and, bit_or, bit_xor, bytes_eq, drop, MatchResult, nat_le, negsuc, not, ok_or, option_and_then, pos, replicate, slice_index, slice_set, take, ℤ, ◌&&◌, ◌==◌, ◌||◌, ◌≤ℤ◌}
