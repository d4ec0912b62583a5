use Rattle.std.proofs.Common.{◌≡◌, ◌++◌, drop, string_bytes}
use Rattle.listing.specs.Labels.{lines_for}

abbrev pub invariant-loop-index : Rattle.listing.proofs.naming.lines_for.Given.invariant-loop-index
invariant-loop-index l = lines_for l.form l.image l.image.lines.labels
    ≡ string_bytes l.lines ++ lines_for l.form l.image (drop l.index l.image.lines.labels)
