use Rattle.std.proofs.Common.{◌≡◌, drop}
use Rattle.execution.specs.Texts.{place_after, place_in}

abbrev pub invariant-loop-text : Rattle.execution.proofs.texts.place_in.Given.invariant-loop-text
invariant-loop-text l = (l.passed ≡ l.text-index) × (place_after l.passed (drop l.text-index l.texts) l.rest ≡ place_in l.texts l.line)
