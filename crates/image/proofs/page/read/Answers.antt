use Rattle.image.proofs.Common.{ap, drop, length, nil_from_length, page_bytes, rules, sym, take, ◌∙◌, ◌≡◌}
use Rattle.image.proofs.Reading.{blank_part}

pub returns-then-is_empty : Rattle.image.proofs.page.read.Goals.returns-then-is_empty
returns-then-is_empty c =
    let none : length c.args.page.now ≡ 0 = search rules in
    let n = length c.args.into.now in
    c.fill.ensures.after (λ y h. h)
    ∙ sym (blank_part c.args.offset n c.requires.within)
    ∙ ap (λ b. take n (drop c.args.offset (page_bytes b))) (sym (nil_from_length c.args.page.now none))
