use Rattle.image.proofs.Common.{ap, arith, bytes_at, drop, fault_at, Global, IsPage, length, Ok, page_bytes, rules, subst, sym, take, unless_fault, Vec, ℕ, ◌%◌, ◌+◌, ◌/◌, ◌<◌, ◌∙◌, ◌≤◌}
use Rattle.image.proofs.Flat.{page_at}
use Rattle.image.proofs.Places.{lies, place_of}
use Rattle.image.proofs.Reading.{blank_part, has_all, is_blank, bytes_inside, outside_pages}
use Rattle.image.proofs.memory.Memory.word_bytes.Goals as goal

pub returns-then-index-len : goal.returns-then-index-len
returns-then-index-len c =
    let ps = c.self.inside.pages.items in
    let many : length ps ≤ place_of c.args.addr / 4096 = search rules in
    let fault = outside_pages ps c.args.addr 4 4 c.self.invariant c.ranges.addr.fits (omega arith) c.if-addr-ne0.false many in
    sym (ap (λ f. unless_fault f (bytes_at (c.args.self.now) c.args.addr 4))
    (ap (λ m. fault_at m 4 c.args.addr 4) (sym c.self.view_is) ∙ fault))

pub returns-then-offset-len : goal.returns-then-offset-len
returns-then-offset-len c =
    let ps = c.self.inside.pages.items in
    let page = c.index-page.result.now in
    let index = place_of c.args.addr / 4096 in
    let offset = place_of c.args.addr % 4096 in
    let some : index < length ps = search rules in
    let l = lies c.args.addr (length ps) c.ranges.addr.fits c.self.invariant.few some in
    let made : offset + 4 ≤ length page.items = search rules in
    let within : offset + 4 ≤ 4096 = omega (arith, l.low, l.place, l.within, c.if-addr-ne0.false) in
    let read = bytes_inside ps c.args.addr index offset 4 page c.self.invariant l some (omega arith) within c.if-addr-ne0.false in
    ap (λ x. Ok x) (c.bytes_at_index.ensures
    ∙ ap (λ b. take 4 (drop offset b)) (c.deref.ensures.value ∙ sym (has_all page.items offset 3 made))
    ∙ ap (λ (v : Vec ℕ Global). take 4 (drop offset (page_bytes v.items))) c.index-page.ensures)
    ∙ sym read
    ∙ ap (λ m. unless_fault (fault_at m 4 c.args.addr 4) (bytes_at m c.args.addr 4)) c.self.view_is

pub returns-else-offset-len : goal.returns-else-offset-len
returns-else-offset-len c =
    let ps = c.self.inside.pages.items in
    let page = c.index-page.result.now in
    let index = place_of c.args.addr / 4096 in
    let offset = place_of c.args.addr % 4096 in
    let some : index < length ps = search rules in
    let l = lies c.args.addr (length ps) c.ranges.addr.fits c.self.invariant.few some in
    let few : length page.items < offset + 4 = search rules in
    let within : offset + 4 ≤ 4096 = omega (arith, l.low, l.place, l.within, c.if-addr-ne0.false) in
    let is : IsPage page.items = subst (λ (v : Vec ℕ Global). IsPage v.items) (sym c.index-page.ensures)
    (page_at ps index page c.self.invariant.each some) in
    let blank = is_blank page.items offset 4 is few within in
    let read = bytes_inside ps c.args.addr index offset 4 page c.self.invariant l some (omega arith) within c.if-addr-ne0.false in
    ap (λ x. Ok x) (sym (blank_part offset 4 within)
    ∙ ap (λ b. take 4 (drop offset b)) (sym blank)
    ∙ ap (λ (v : Vec ℕ Global). take 4 (drop offset (page_bytes v.items))) c.index-page.ensures)
    ∙ sym read
    ∙ ap (λ m. unless_fault (fault_at m 4 c.args.addr 4) (bytes_at m c.args.addr 4)) c.self.view_is
