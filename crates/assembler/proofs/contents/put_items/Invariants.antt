use Rattle.assembler.proofs.Common.{drop, items_bytes, labels_of, with_more, ◌≡◌}

abbrev pub invariant-loop-item : Rattle.assembler.proofs.contents.put_items.Given.invariant-loop-item
invariant-loop-item l =
    with_more l.initial.bytes.items (items_bytes (labels_of l.labels.entries) l.width l.items) ≡ with_more l.bytes.items
    (items_bytes (labels_of l.labels.entries) l.width (drop l.item-index l.items))
