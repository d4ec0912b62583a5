use Rattle.message_parts.proofs.Common.{all_found, drop, ◌≡◌}
use Rattle.serde_json.specs.View.{items_view}
use Rattle.protocol.proofs.Lists.{with_others}

-- the list is taken for the entries so far, and then for what is left of it
abbrev pub invariant-loop-value : Rattle.message_parts.proofs.part.read_each.Given.invariant-loop-value
invariant-loop-value g l =
    all_found g.T.Part.form.found (items_view l.values) ≡ with_others l.entries.items
    (all_found g.T.Part.form.found (items_view (drop l.value-index l.values)))
