-- What most proofs here speak of, under one name.
pub use Rattle.std.proofs.Common.{[], add-one, ap, append_assoc, arith, Bool, cond, drop, drop-cons, Err, false, get_or, length, List, map, nat_lt, None, Ok, Option, refl, Result, rules, slice_index, Some, subst, suc, sym, take, true, zero, ℕ, ◌&&◌, ◌*◌, ◌++◌, ◌+◌, ◌-◌, ◌<◌, ◌==◌, ◌||◌, ◌∙◌, ◌∷◌, ◌≡◌, ◌≤◌}
pub use Rattle.std.proofs.lemmas.Bool.Decides.{nat_tests}
pub use Rattle.std.proofs.lemmas.List.{length-append, map-append, take_more}
pub use Rattle.std.specs.List.{All, prefix_len, range_with_len, slice_get, take_while}
pub use Rattle.variables.specs.Numbers.{at_next_stop, found_in, has, InOrder, Issues, next_of, number_from, number_in, Numbers, numbers_by, StandsFor, unless_absent, with_all, with_one, with_targets}
pub use Rattle.variables.specs.References.{ended, found, found_among, is_same, Issued, issued_all, issued_one, next_after, next_number, nothing_issued, number_among, number_of, Past, unless_issued}
pub use Rattle.variables.specs.Stack.{has_word, name_at, stack_words, word, words}
pub use Rattle.variables.specs.declared.target.Target.{Target}
