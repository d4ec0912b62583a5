use Rattle.std.proofs.Common.{◌+◌, ◌*◌, refl, string_bytes}
use Rattle.image.specs.Memory.{first_address}
use Rattle.listing.proofs.Listed.{all_made, one_more}
use Rattle.listing.proofs.entries.entries_of.Goals as goal

pub loop-index-preserved : goal.loop-index-preserved
loop-index-preserved c =
    one_more c.args.image.now c.loop-index.index (first_address + 4 * c.loop-index.index) (string_bytes c.loop-index.lines)
    (string_bytes c.push_listed.new.lines) c.loop-index.invariant
    (rw c.as_slice.ensures at c.loop-index-test.true) refl c.in_ok-push_listed.ensures

pub returns : goal.returns
returns c =
    all_made c.args.image.now c.loop-index.index (string_bytes c.loop-index.lines) c.loop-index.invariant
    (rw c.as_slice.ensures at c.loop-index-test.false)
