use Rattle.image.proofs.Common.{ap, arith, drop, flat, length, put, rules, take, ◌+◌, ◌-◌, ◌/◌, ◌∙◌, ◌≡◌, ◌≤◌}
use Rattle.image.proofs.Flat.{flat_length}
use Rattle.image.proofs.Tables.{put_more}

pub loop-done-preserved : Rattle.image.proofs.table.put_bytes.Goals.loop-done-preserved
loop-done-preserved c =
    let ps = c.args.pages.now.items in
    let n = c.count_in_page-count.result in
    let all = flat_length ps c.requires.each in
    let within : c.loop-done.done + n ≤ length c.args.bytes.now = search rules in
    let more = put_more (flat ps) c.args.bytes.now c.args.place c.loop-done.done n (omega (arith, all, c.requires.within)) within in
    let same : c.loop-done.done + n - c.loop-done.done ≡ n = omega arith in
    let part = take n (drop c.loop-done.done c.args.bytes.now) in
    record {
      within = within;
      puts = record {
        each = c.put_in_page.ensures.puts.each;
        many = c.put_in_page.ensures.puts.many ∙ c.loop-done.invariant.puts.many;
        same = c.put_in_page.ensures.puts.same
            ∙ ap (λ k. put (flat c.loop-done.pages.items) (c.args.place + c.loop-done.done)
            (take k (drop c.loop-done.done c.args.bytes.now))) same
            ∙ ap (λ l. put l (c.args.place + c.loop-done.done) part) c.loop-done.invariant.puts.same ∙ more;
      };
      made =
          c.put_in_page.ensures.keeps (c.args.place / 4096)
          ((c.args.place + length c.args.bytes.now + 4095) / 4096) c.loop-done.invariant.made;
    }
