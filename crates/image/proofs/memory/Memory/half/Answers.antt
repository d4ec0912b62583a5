use Rattle.image.proofs.Common.{ap, arith, bytes_at, drop, fault_at, Global, halfword_at, IsPage, length, little_endian, Ok, page_bytes, rules, subst, sym, take, unless_fault, Vec, ℕ, ◌%◌, ◌+◌, ◌/◌, ◌<◌, ◌∙◌, ◌≤◌}
use Rattle.image.proofs.Flat.{page_at}
use Rattle.image.proofs.Places.{lies, place_of}
use Rattle.image.proofs.Reading.{blank_number, has_all, is_blank, number_inside, outside_pages}
use Rattle.image.proofs.memory.Memory.half.Goals as goal

pub returns-then-index-len : goal.returns-then-index-len
returns-then-index-len c =
    let ps = c.self.inside.pages.items in
    let many : length ps ≤ place_of c.args.addr / 4096 = search rules in
    let fault = outside_pages ps c.args.addr 2 2 c.self.invariant c.ranges.addr.fits (omega arith) c.if-addr-ne0.false many in
    sym (ap (λ f. unless_fault f (little_endian (bytes_at (c.args.self.now) c.args.addr 2)))
    (ap (λ m. fault_at m 2 c.args.addr 2) (sym c.self.view_is) ∙ fault))

pub returns-then-offset-len : goal.returns-then-offset-len
returns-then-offset-len c =
    let ps = c.self.inside.pages.items in
    let page = c.index-page.result.now in
    let index = place_of c.args.addr / 4096 in
    let offset = place_of c.args.addr % 4096 in
    let some : index < length ps = search rules in
    let l = lies c.args.addr (length ps) c.ranges.addr.fits c.self.invariant.few some in
    let made : offset + 2 ≤ length page.items = search rules in
    let within : offset + 2 ≤ 4096 = omega (arith, l.low, l.place, l.within, c.if-addr-ne0.false) in
    let read = number_inside ps c.args.addr index offset 2 page c.self.invariant l some (omega arith) within c.if-addr-ne0.false in
    ap (λ x. Ok x) (c.halfword_at_index.ensures
    ∙ ap (λ b. little_endian (take 2 (drop offset b))) (c.deref.ensures.value ∙ sym (has_all page.items offset 1 made))
    ∙ ap (λ (v : Vec ℕ Global). little_endian (take 2 (drop offset (page_bytes v.items)))) c.index-page.ensures)
    ∙ sym read
    ∙ ap (λ m. halfword_at m c.args.addr) c.self.view_is

pub returns-else-offset-len : goal.returns-else-offset-len
returns-else-offset-len c =
    let ps = c.self.inside.pages.items in
    let page = c.index-page.result.now in
    let index = place_of c.args.addr / 4096 in
    let offset = place_of c.args.addr % 4096 in
    let some : index < length ps = search rules in
    let l = lies c.args.addr (length ps) c.ranges.addr.fits c.self.invariant.few some in
    let few : length page.items < offset + 2 = search rules in
    let within : offset + 2 ≤ 4096 = omega (arith, l.low, l.place, l.within, c.if-addr-ne0.false) in
    let is : IsPage page.items = subst (λ (v : Vec ℕ Global). IsPage v.items) (sym c.index-page.ensures)
    (page_at ps index page c.self.invariant.each some) in
    let blank = is_blank page.items offset 2 is few within in
    let read = number_inside ps c.args.addr index offset 2 page c.self.invariant l some (omega arith) within c.if-addr-ne0.false in
    ap (λ x. Ok x) (sym (blank_number offset 2 within)
    ∙ ap (λ b. little_endian (take 2 (drop offset b))) (sym blank)
    ∙ ap (λ (v : Vec ℕ Global). little_endian (take 2 (drop offset (page_bytes v.items)))) c.index-page.ensures)
    ∙ sym read
    ∙ ap (λ m. halfword_at m c.args.addr) c.self.view_is
