-- What most proofs here speak of, under one name.
pub use Rattle.circular_buffer.specs.Buffer.{buffer, Buffer, keep_last, last_item}
pub use Rattle.course.specs.Calls.{calls_of, depth_after, depth_of, depth_through, depths_through, is_kept, Kept, kept_through, noted, nothing_kept, StandsFor, with_mark, with_marks, with_retired}
pub use Rattle.course.specs.Marks.{is_link, jalr_marks, Mark, marks_at, marks_of, Retired}
pub use Rattle.course.specs.Marks.Mark.{Pop, Push}
pub use Rattle.course.specs.Positions.{Course, GoesOn, gone_back, Halts, IsFetched, machine_at, Position, position_at, recorded, Retires, Says, StoredInBlank, UndoNeedsPage}
pub use Rattle.course.specs.Private.Moves.{AllAreKept, Amends, called_in, CanBeKept, CanBeUnmade, course_of, GoesBy, HandsOn, IsKeptBy, IsMade, IsOfStore, IsOver, kept, kept_of_pc, Log, logged, machine_in, moves_of, past_of, placed, popped, pushed, put_last, Puts, PutsInBlank, swapped, TakesBack, undo_in, undo_of, unmade, unnoted, with_called, with_move}
pub use Rattle.course.specs.Private.Words.{AreKnown, deed_of, elsewhere, forgotten, is_plain, IsReady, kind_of, Knows, Makes, nothing_at, place_of, pops_in, pushes_in, Spares, stored_at, stores_in, Traps, with_mark_if}
pub use Rattle.course.specs.declared.entry.Entry.{Entry}
pub use Rattle.course.specs.declared.moves.Move.{Move}
pub use Rattle.image.specs.Memory.{bytes_at, fault_at, halfword_bytes, little_endian, memory_after, unless_fault, with_bytes, word_at, word_bytes, WritesOrLacks}
pub use Rattle.image.specs.declared.fault.MemFault.{MemFault}
pub use Rattle.image.specs.declared.fault.MemFault.TheVariants.{Misaligned, NoMemory, Outside}
pub use Rattle.rv32i.specs.Machine.{branches, calls, Effect, effect_of, IsDecodedAtPc, IsMove, jumps, linked, loads_unless, Machine, machine_of, retired, signed, Store, store_of, stores_unless, sum, trapped, value, with_register}
pub use Rattle.rv32i.specs.Steps.{Lacks, Performs, settles}
pub use Rattle.rv32i.specs.Undoing.{destination, retires, stored, undone}
pub use Rattle.rv32i.specs.declared.hart.Hart.{Hart}
pub use Rattle.rv32i.specs.declared.instr.Instr.{Instr}
pub use Rattle.rv32i.specs.declared.undo.Undo.{Undo}
pub use Rattle.std.proofs.Common.{[], ap, append-nil, append_assoc, arith, Bool, cond, Decides, drop, eqb, Err, false, get_or, if◌then◌else◌, inl, inr, leb, length, length-append, List, ltb, max, min, nat_le, nat_lt, None, not, Ok, Option, refl, Result, reverse, set, Some, subst, suc, sym, take, true, zero, ℕ, ◌%◌, ◌&&◌, ◌*◌, ◌++◌, ◌+◌, ◌-◌, ◌/◌, ◌<◌, ◌^◌, ◌∙◌, ◌∷◌, ◌≡◌, ◌≢◌, ◌≤◌, ◌⊎◌}
pub use Rattle.std.proofs.lemmas.Bool.Decides.{Decides-eqb, nat_tests, not_from_Decides}
pub use Rattle.std.proofs.lemmas.List.{drop-append-le, drop_at, get_or-set_other, get_or-set_same, get_or_default, length-drop, length-reverse, length-set, length-take, length-take-le, reverse-append, reverse-reverse, take-append-drop, take-append-le, take-take, take_all}
pub use Rattle.std.specs.Prelude.{OnErr, slice_get, slice_index, slice_set, vec_capacity}
