-- What most proofs here speak of, under one name.
pub use Rattle.breakpoints.specs.Places.{AllMarked, Covers, has_place, is_among, is_at, IsKept, SamePlaces}
pub use Rattle.breakpoints.specs.Scanning.{lexemes, sign_in, SoFar, Spelled, SpelledOrNot, SpellsOrNot, Takes, with_first}
pub use Rattle.breakpoints.specs.Shifting.{Before, closed, closed_at, Empty, ended, ended_at, finished_on, follows, Full, Grouped, grouped, Inside, joined, LeftOf, Open, opens, parsed, parsed_from, Place, place_of, shifted, shifted_on, Stack}
pub use Rattle.breakpoints.specs.Stops.{checked, counted, fresh, hit_in, hit_where, ids_where, is_hit, is_reached, Lists, logging_from, logs, looked, Placed, reset, standing_in, stands, stopping_ids, stops, wanted_by, with_hit}
pub use Rattle.breakpoints.specs.Tokens.{AllBlank, closing, is_lexeme, is_sign, is_sign_byte, is_sign_pair, is_word, is_word_byte, IsLongest, IsTokens, opening, sign_of, Spells}
pub use Rattle.breakpoints.specs.Trees.{Binary, binding, Enclosed, groups, level_of, nesting, Number, Pc, Register, token_before, tokens_of, Tree, Unary}
pub use Rattle.breakpoints.specs.declared.token.Bracket.{Bracket}
pub use Rattle.breakpoints.specs.declared.token.Bracket.TheVariants.{Round, Square}
pub use Rattle.breakpoints.specs.declared.token.Infix.{Infix}
pub use Rattle.breakpoints.specs.declared.token.Infix.TheVariants.{And, AndThen, Equal, Greater, GreaterEqual, Less, LessEqual, Minus, NotEqual, Or, OrElse, Plus, ShiftLeft, ShiftRight, Times, Xor}
pub use Rattle.breakpoints.specs.declared.token.Token.{Token}
pub use Rattle.byte_strings.specs.Blanks.{is_blank}
pub use Rattle.rv32i.specs.Names.{name_of, Names, names, numbered_name_of, numbered_names}
pub use Rattle.std.proofs.Common.{[], All, ap, append_assoc, arith, Bool, codes, cond, drop, Err, false, filter, get_or, IfSome, if◌then◌else◌, inl, inr, leb, length, length-drop, List, ltb, map, MatchOption, MatchResult, min, None, not, Ok, Option, refl, Result, set, Some, subst, suc, sym, take, true, vec_capacity, vec_len, zero, ℕ, ◌%◌, ◌&&◌, ◌++◌, ◌+◌, ◌-◌, ◌/◌, ◌<◌, ◌==◌, ◌||◌, ◌∙◌, ◌∷◌, ◌≡◌, ◌≢◌, ◌≤◌, ◌⊎◌}
pub use Rattle.std.proofs.lemmas.Bool.{and_from, and_parts, both_ways, eq-eqb, eqb-false, eqb-true, le-leb, le-ltb, leb-false, leb-true, lt-leb, lt-ltb, ltb-false, ltb-true, ne_eqb, or_left, or_parts, or_right, true≢false}
pub use Rattle.std.proofs.lemmas.List.{append-nil, drop_all, drop_more, get_or-drop, get_or-set_other, get_or-set_same, map-append, take_all, take_more}
pub use Rattle.std.proofs.lemmas.List.Folds.{list_any-append, list_any_at, list_any_more}
pub use Rattle.std.specs.List.{list_any}
pub use Rattle.std.specs.Prelude.{⊤}
