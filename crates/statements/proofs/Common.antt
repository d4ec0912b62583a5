-- What most proofs here speak of, under one name.
pub use Rattle.byte_strings.proofs.Below.{all_below_at}
pub use Rattle.byte_strings.proofs.Conjunctions.{all_append, all_reverse, and_both, and_left, and_right}
pub use Rattle.byte_strings.proofs.Trimming.{all_gone, bare, begins_blank, between, blanks_go, led, others_stay, round, trimmed_bare, trimmed_begins, trimmed_ends}
pub use Rattle.byte_strings.proofs.Divided.{shape}
pub use Rattle.byte_strings.specs.Blanks.{is_blank, trimmed, without_leading_blanks, without_trailing_blanks}
pub use Rattle.byte_strings.specs.Fields.{fields, fields_after, parted, parted_at}
pub use Rattle.numerals.specs.Numerals.{magnitude as numeral_of, magnitude_by as numeral_by, numeral, prefixed, within}
pub use Rattle.rv32i.specs.Machine.{sum}
pub use Rattle.rv32i.specs.Names.{name_of, names, Names, numbered_name_of, numbered_names}
pub use Rattle.rv32i.specs.Texts.{access_text, branch_text, eight_digits, HasText, hex_digit, is_plain_fence, registers_text, set_text, shift_text, upper_text, with_three, with_two}
pub use Rattle.statements.specs.Directives.{all_of, are_formed, before_others, is_bad, is_formed, item_in, items_in, items_of, number_item, OrNoMemory, stated}
pub use Rattle.statements.specs.Grammar.{AllBlank, BeginsWith, Division, IsLine, IsSpoken, IsStatement, Labelled, means, says, Spoken}
pub use Rattle.statements.specs.Instructions.{and_then, constant, fence_of, lower, one, Said, store_lower, upper_by, upper_in}
pub use Rattle.statements.specs.Mnemonics.{access_mnemonics, branch_mnemonics, copy_mnemonics, directives, first_named, immediate_mnemonics, jump_mnemonics, mnemonic_of, or_else, plain_mnemonics, register_mnemonics, zero_branch_mnemonics}
pub use Rattle.statements.specs.Numbers.{bits_by, bits_in, magnitude_by, number_by, number_in, signed}
pub use Rattle.statements.specs.OperandLaws.{AreOperands, begins_high, begins_low, bits, commas, DigitsWrite, divided, in_brackets, in_spaced_brackets, is_no_offset, is_offset, is_quiet, is_unclosed, IsInner, IsNumber, IsOperand, labelled, line_with, low_of, none, NoOffsetIsZero, NumbersHaveRanges, PartsOfAddresses, RegistersHaveNames, SameAddress, SameImmediate, takes_address, TakesNumbers, WritesMagnitude}
pub use Rattle.statements.specs.Operands.{access_by, access_in, access_with, address_target, are_operands, base_by, bits_low, bracketed, bracketed_by, closed, closed_by, counted, each_operand, immediate_in, index_of, is_operand, label_in, low_by, low_in, offset_in, operand_list, operands_in, or_bad, part_access, part_access_by, part_by, part_in, part_low, plain_access, register_in, register_of, set_in, sets, target_in}
pub use Rattle.statements.specs.Pseudo.{at_register, is_plain, IsShort, NamesArePlain, OfBranches, OfConstants, OfJumps, OfOne, OfRegisters, OfThree, OfTwo, Puts, with_one}
pub use Rattle.statements.specs.Reading.{content_by, label_before, labels_of, labels_with, line_of, meaning, read, rest_of, rest_with, said, said_at, said_by, statement_in, stating, without_comment}
pub use Rattle.statements.specs.Spelling.{is_name, is_name_byte, named, stripped}
pub use Rattle.statements.specs.Texts.{stated_alone, statement_of}
pub use Rattle.statements.specs.declared.error.LineError.{LineError}
pub use Rattle.statements.specs.declared.error.LineError.TheVariants.{BadOperand, NoMemory, OutOfRange, Syntax, UnknownInstruction}
pub use Rattle.statements.specs.declared.forms.Access.{Access}
pub use Rattle.statements.specs.declared.forms.Low.{Low}
pub use Rattle.statements.specs.declared.forms.Low.TheVariants.{Bits, Part}
pub use Rattle.statements.specs.declared.items.Item.{Item}
pub use Rattle.statements.specs.declared.items.Width.{Width}
pub use Rattle.statements.specs.declared.items.Width.TheVariants.{Byte, Half, Word}
pub use Rattle.statements.specs.declared.line.Line.{Line}
pub use Rattle.statements.specs.declared.mnemonics.Mnemonic.{Mnemonic}
pub use Rattle.statements.specs.declared.mnemonics.Mnemonic.TheVariants.{Branch, Data, Global, Immediate, JumpAndLinkRegister, Load, Registers, Shift, Store, Swapped}
pub use Rattle.statements.specs.declared.operands.Operands.TheVariants.{More, One, Three, Two}
pub use Rattle.statements.specs.declared.operations.Condition.{Condition}
pub use Rattle.statements.specs.declared.statement.Statement.{Statement}
pub use Rattle.statements.specs.declared.statement.Target.{Target}
pub use Rattle.statements.specs.declared.statement.Target.TheVariants.{Address, Label}
pub use Rattle.std.proofs.Common.{[], ap, append-nil, append_assoc, arith, Bool, bytes_eq, codes, cond, Decides, decimal, drop, drop_at, eq-eqb, eqb-true, Err, false, get_or, if◌then◌else◌, inl, inr, IsUtf8, leb, length, length-append, List, lit<, ltb, ltb-false, ltb-true, map, MatchOption, nat_lt, negsuc, None, not, Ok, Option, option_copied, pos, position, refl, Result, reverse, rules, Some, subst, suc, sym, take, take-append-drop, take_at, true, ℕ, ⊎_elim, ◌%◌, ◌&&◌, ◌*◌, ◌++◌, ◌+◌, ◌-◌, ◌/◌, ◌<◌, ◌==◌, ◌^◌, ◌||◌, ◌∙◌, ◌∷◌, ◌≡◌, ◌≤◌, ◌⊎◌}
pub use Rattle.std.proofs.Math.Seq.{drop-append-add, drop-append_seam, take-append_seam}
pub use Rattle.std.proofs.lemmas.Bool.{and_parts, cases_Bool, cond-false, cond-true, cond_both, eqb-false, false_from_ne_true, MatchBool-at_false, MatchBool-at_true, not-false, not-true}
pub use Rattle.std.proofs.lemmas.Bool.Decides.{Decides-and, Decides-ltb, nat_tests}
pub use Rattle.std.proofs.lemmas.List.Folds.{list_all-append, list_all-map}
pub use Rattle.std.proofs.lemmas.List.Quantifiers.{position-Some}
pub use Rattle.std.proofs.lemmas.List.Splits.{join_with_byte-slice_split}
pub use Rattle.std.proofs.lemmas.Slice.Eq.{bytes_eq-Decides}
pub use Rattle.std.specs.Fmt.{digits, signed_decimal}
pub use Rattle.std.specs.List.{join_with_byte, list_all, position_or_len}
