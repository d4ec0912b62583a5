use Rattle.std.proofs.Common.{◌≡◌, drop}
use Rattle.answers.specs.SetVariable as spec

abbrev pub invariant-loop-word : Rattle.answers.proofs.set_variable.in_stack.Given.invariant-loop-word
invariant-loop-word l = record {
  left : spec.has_name l.name (drop l.word-index l.words) ≡ spec.has_name l.name l.words;
}
