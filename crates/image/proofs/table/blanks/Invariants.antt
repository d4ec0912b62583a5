abbrev pub invariant-loop : Rattle.image.proofs.table.blanks.Given.invariant-loop
invariant-loop l = Rattle.image.specs.Private.Pages.AreBlank l.pages.items l.counter
