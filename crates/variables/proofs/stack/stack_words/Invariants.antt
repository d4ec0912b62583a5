use Rattle.variables.proofs.Common.{range_with_len, stack_words, words, ◌++◌, ◌-◌, ◌≡◌}

abbrev pub invariant-loop-number : Rattle.variables.proofs.stack.stack_words.Given.invariant-loop-number
invariant-loop-number l = record {
  listed : l.words.items ++ words l.memory l.sp (range_with_len l.number (64 - l.number)) ≡ stack_words l.hart l.memory;
}
