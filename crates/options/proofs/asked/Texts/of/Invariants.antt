use Rattle.std.proofs.Common.{◌≡◌, ◌++◌, drop, map}

abbrev pub invariant-loop-text : Rattle.options.proofs.asked.Texts.of.Given.invariant-loop-text
invariant-loop-text l = map (λ t. t.now) l.texts ≡ l.copies.items ++ map (λ t. t.now) (drop l.text-index l.texts)
