use Rattle.std.proofs.Common.{rules}
use Rattle.image.proofs.Tables.{copied}

pub loop-page-preserved : Rattle.image.proofs.table.copies.Goals.loop-page-preserved
loop-page-preserved c =
    copied c.args.pages.now c.loop-page.copies.items c.push.new.self.items c.loop-page.page-index c.page-item.result
    c.in_ok-from_slice.field-0 c.requires (search rules) (search rules) (search rules) c.loop-page.invariant c.in_ok-push.ensures.items
