use Rattle.std.proofs.Common.{rules, string_bytes}
use Rattle.listing.proofs.Named.{one_more}
use Rattle.listing.specs.Labels.{lines_for}

pub loop-index-preserved : Rattle.listing.proofs.naming.lines_for.Goals.loop-index-preserved
loop-index-preserved c =
    one_more c.args.form c.args.image.now c.args.image.now.lines.labels c.loop-index.index _
    (string_bytes c.loop-index.lines) (string_bytes c.push_at.new.lines) (search rules) c.loop-index.invariant c.in_ok-push_at.ensures
