use Rattle.image.proofs.Common.{ap, arith, drop, flat, Global, IsPage, length, length-drop, length-take-le, page_bytes, rules, subst, sym, take, Vec, ℕ, ◌%◌, ◌+◌, ◌-◌, ◌/◌, ◌<◌, ◌∙◌, ◌≡◌, ◌≤◌}
use Rattle.image.proofs.Flat.{flat_length, page_at}
use Rattle.image.proofs.Tables.{read_here, read_long, read_more}
use Rattle.image.proofs.table.read_bytes.Goals as goal

pub read-requires-clause-page : goal.read-requires-clause-page
read-requires-clause-page c =
    let ps = c.args.pages.now in
    let page = c.index-pages-here.result in
    let there : (c.args.place + c.loop-done.done) / 4096 < length ps = search rules in
    subst IsPage (sym c.deref.ensures.value)
    (subst (λ (v : Vec ℕ Global). IsPage v.items) (sym c.index-pages-here.is)
    (page_at ps ((c.args.place + c.loop-done.done) / 4096) page c.requires.each there))

pub loop-done-preserved : goal.loop-done-preserved
loop-done-preserved c =
    let ps = c.args.pages.now in
    let n = c.count_in_page-count.result in
    let done = c.loop-done.done in
    let page = c.index-pages-here.result in
    let there : (c.args.place + done) / 4096 < length ps = search rules in
    let within : done + n ≤ length c.args.into.now = search rules in
    let long : done + n ≤ length c.loop-done.into = omega (arith, c.loop-done.invariant.many, within) in
    let k : done + n - done ≡ n = omega arith in
    let room : length (take (done + n - done) (drop done c.loop-done.into)) ≡ n =
    length-take-le (done + n - done) (drop done c.loop-done.into) (omega (arith, long, length-drop done c.loop-done.into)) ∙ k in
    let fits : (c.args.place + done) % 4096 + n ≤ 4096 = c.count_in_page-count.ensures.within in
    let reads : c.read.new.into ≡ take n (drop done (drop c.args.place (flat ps))) = c.read.ensures
    ∙ ap (λ j. take j (drop ((c.args.place + done) % 4096) (page_bytes c.deref.result.now))) room
    ∙ ap (λ b. take n (drop ((c.args.place + done) % 4096) (page_bytes b))) c.deref.ensures.value
    ∙ ap (λ (v : Vec ℕ Global). take n (drop ((c.args.place + done) % 4096) (page_bytes v.items))) c.index-pages-here.is
    ∙ read_here ps c.args.place done n page c.requires.each there fits in
    let rest = drop done (drop c.args.place (flat ps)) in
    let enough : n ≤ length rest = omega (
      arith,
      flat_length ps c.requires.each,
      length-drop done (drop c.args.place (flat ps)),
      length-drop c.args.place (flat ps),
      within,
      c.requires.within,
    ) in
    let size : length c.read.new.into ≡ n = ap length reads ∙ length-take-le n rest enough in
    record {
      within = within;
      many = read_long c.loop-done.into c.read.new.into done n (done + n - done) long size k ∙ c.loop-done.invariant.many;
      reads =
          read_more c.loop-done.into c.read.new.into (drop c.args.place (flat ps)) done n
          (done + n - done) long size c.loop-done.invariant.reads reads;
    }
