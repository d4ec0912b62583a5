use Rattle.image.proofs.Common.{ap, arith, length, page_bytes, ◌∙◌, ◌≡◌}
use Rattle.image.proofs.Flat.{page_length}

pub put_bytes-requires : Rattle.image.proofs.page.store.Goals.put_bytes-requires
put_bytes-requires c =
    let all : length (page_bytes c.args.page.now.items) ≡ 4096 = page_length c.args.page.now.items c.requires.page in
    let is : length c.deref_mut.result.now ≡ length (page_bytes c.args.page.now.items) =
    ap length (c.deref_mut.ensures.value ∙ c.in_ok-make.ensures.ok) in
    omega (arith, all, is, c.requires.within)
