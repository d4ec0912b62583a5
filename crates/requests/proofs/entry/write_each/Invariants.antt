use Rattle.message_parts.proofs.Common.{drop, items_of, items_tokens, ItemsHaveSmallNumbers, ◌++◌, ◌≡◌}

abbrev pub invariant-loop-entry : Rattle.requests.proofs.entry.write_each.Given.invariant-loop-entry
invariant-loop-entry g l = record {
  before : l.out.before ≡ l.initial.out.before;
  rest : l.out.tokens ++ items_tokens (items_of g.T.Entry.form.value (drop l.entry-index l.entries)) ≡ l.initial.out.tokens ++ items_tokens (items_of g.T.Entry.form.value l.entries);
  small : ItemsHaveSmallNumbers (items_of g.T.Entry.form.value (drop l.entry-index l.entries))
      → ItemsHaveSmallNumbers (items_of g.T.Entry.form.value l.entries);
}
