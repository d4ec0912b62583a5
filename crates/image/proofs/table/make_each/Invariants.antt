use Rattle.image.specs.Private.Pages.{AreMade, HaveBytes, flat}

abbrev pub invariant-loop-index : Rattle.image.proofs.table.make_each.Given.invariant-loop-index
invariant-loop-index l = record {
  keeps : HaveBytes l.fn.pages.items (flat l.fn.pages.items) l.pages.items;
  made : AreMade l.pages.items l.first l.index;
}
