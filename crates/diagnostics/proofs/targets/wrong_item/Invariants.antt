use Rattle.diagnostics.proofs.Common.{drop, labels_of, wrong_items, ◌≡◌}

abbrev pub invariant-loop-item : Rattle.diagnostics.proofs.targets.wrong_item.Given.invariant-loop-item
invariant-loop-item l =
    wrong_items (labels_of l.labels.entries) l.items ≡ wrong_items (labels_of l.labels.entries) (drop l.item-index l.items)
