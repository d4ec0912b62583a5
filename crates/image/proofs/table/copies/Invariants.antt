use Rattle.image.proofs.Common.{flat, HaveBytes, take}

abbrev pub invariant-loop-page : Rattle.image.proofs.table.copies.Given.invariant-loop-page
invariant-loop-page l = HaveBytes (take l.page-index l.pages) (flat (take l.page-index l.pages)) l.copies.items
