pub loop-preserved : Rattle.image.proofs.table.blanks.Goals.loop-preserved
loop-preserved c =
    Rattle.image.proofs.Flat.more_blank c.loop.pages.items c.push.new.self.items c.new.result c.loop.counter c.loop.invariant
    c.in_ok-push.ensures.items c.new.ensures.items
