use Rattle.image.proofs.Common.{ap, arith, Global, length, put, rules, Vec, with_items_is, ℕ, ◌%◌, ◌/◌, ◌∙◌, ◌≡◌}
use Rattle.std.specs.Vec.{with_items}
use Rattle.image.proofs.Tables.{put_here}

pub returns-clause-puts : Rattle.image.proofs.table.put_in_page.Goals.returns-clause-puts
returns-clause-puts c =
    let ps = c.args.pages.now.items in
    let page = c.index_mut.result.now in
    let made : length page.items ≡ 4096 = ap (λ (v : Vec ℕ Global). length v.items) c.index_mut.ensures.value
    ∙ c.requires.made (c.args.place / 4096) page (omega arith) (omega arith) in
    let same : (with_items page c.put_bytes.new.page).items ≡ c.put_bytes.new.page = with_items_is page c.put_bytes.new.page
    (search rules) in
    put_here ps c.args.place c.args.bytes.now page
    (with_items page c.put_bytes.new.page) c.requires.each c.requires.there c.requires.within c.index_mut.ensures.value
    made (same ∙ c.put_bytes.ensures ∙ ap (λ x. put x (c.args.place % 4096) c.args.bytes.now) c.deref_mut.ensures.value)
