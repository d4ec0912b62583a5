use Rattle.std.proofs.Common.{◌≡◌, drop}
use Rattle.serde_json.specs.View.{items_view}
use Rattle.protocol.specs.Arguments.{each}
use Rattle.protocol.proofs.Lists.{with_others}

-- the list means the entries so far, and then what is left of it
abbrev pub invariant-loop-value : Rattle.protocol.proofs.entries.read_each.Given.invariant-loop-value
invariant-loop-value g l =
    each g.T.Argument.meaning (items_view l.values) ≡ with_others l.entries.items
    (each g.T.Argument.meaning (items_view (drop l.value-index l.values)))
