use Rattle.image.proofs.Common.{ap, first_greatest, Label, labels_of, List, slice_get, Some, string_bytes, sym, Table, up_to, ◌∙◌, ◌≡◌}
use Rattle.image.proofs.Nearest.{found_below, label_of_entry, named}
use Rattle.image.proofs.lines.LineTable.label_at.Goals as goal
use Rattle.image.proofs.lines.LineTable.label_at.Goals.{After-as_str}

-- the label that was found
found : (c : After-as_str)
    → first_greatest (up_to c.args.addr c.args.self.now.labels) ≡ Some (string_bytes c.in_ok-name.name.now, c.in_ok-name.address.now)
found c =
    let same : c.args.self.now.labels ≡ labels_of c.self.inside.labels.entries = ap (λ (t : Table). t.labels) (sym c.self.view_is) in
    let index : slice_get c.args.self.now.labels c.in_ok-index.index ≡ first_greatest
    (up_to c.args.addr c.args.self.now.labels) = c.in_ok-index.ensures in
    let entry : slice_get c.self.inside.labels.entries c.in_ok-index.index ≡ Some
    (c.in_ok-name.name.now, c.in_ok-name.address.now) = sym c.in_ok-name.ensures.entry in
    sym index ∙ ap (λ (ls : List Label). slice_get ls c.in_ok-index.index) same
    ∙ label_of_entry c.self.inside.labels.entries c.in_ok-index.index (c.in_ok-name.name.now, c.in_ok-name.address.now) entry

pub overflow_sub-result : goal.overflow_sub-result
overflow_sub-result c =
    found_below c.args.self.now.labels c.args.addr (string_bytes c.in_ok-name.name.now, c.in_ok-name.address.now)
    (found (goal.at.overflow_sub-result c).After-as_str)

pub returns : goal.returns
returns c =
    let end : c.args.self.now.end ≡ c.self.inside.end = ap (λ (t : Table). t.end) (sym c.self.view_is) in
    rw c.as_str.ensures.value
    (sym (named c.args.self.now c.args.addr (string_bytes c.in_ok-name.name.now, c.in_ok-name.address.now)
    (found (goal.at.returns c).After-as_str) c.if-addr-lt-FIRST_ADDRESS.false (rw end c.if-addr-self.false)))
