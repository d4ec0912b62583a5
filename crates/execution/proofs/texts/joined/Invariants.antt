use Rattle.std.proofs.Common.{◌≡◌, drop}
use Rattle.execution.specs.Texts.{joined_after, joined}

abbrev pub invariant-loop-text : Rattle.execution.proofs.texts.joined.Given.invariant-loop-text
invariant-loop-text l = joined_after l.whole.items (drop l.text-index l.texts) ≡ joined l.texts
