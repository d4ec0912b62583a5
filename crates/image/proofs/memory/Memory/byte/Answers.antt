use Rattle.image.proofs.Common.{ap, arith, byte_at, Global, IsPage, length, page_bytes, rules, slice_get, Some, subst, sym, Vec, ℕ, ◌%◌, ◌+◌, ◌/◌, ◌<◌, ◌∙◌, ◌≤◌}
use Rattle.image.proofs.Flat.{get_there, page_at, zero_at}
use Rattle.image.proofs.Places.{lies, place_of}
use Rattle.image.proofs.Reading.{byte_inside, byte_outside, has_all, is_blank}
use Rattle.image.proofs.memory.Memory.byte.Goals as goal

pub returns-then-index-len : goal.returns-then-index-len
returns-then-index-len c =
    let ps = c.self.inside.pages.items in
    let many : length ps ≤ place_of c.args.addr / 4096 = search rules in
    sym (byte_outside ps c.args.addr c.self.invariant c.ranges.addr.fits many) ∙ ap (λ m. byte_at m c.args.addr) c.self.view_is

pub returns-then-offset-len : goal.returns-then-offset-len
returns-then-offset-len c =
    let ps = c.self.inside.pages.items in
    let page = c.index-page.result.now in
    let index = place_of c.args.addr / 4096 in
    let offset = place_of c.args.addr % 4096 in
    let some : index < length ps = search rules in
    let l = lies c.args.addr (length ps) c.ranges.addr.fits c.self.invariant.few some in
    let there : offset < length page.items = search rules in
    let made : offset + 1 ≤ length page.items = omega (arith, there) in
    ap (λ (x : ℕ). Some x) c.index.ensures
    ∙ sym (get_there page.items offset c.index.result.now there)
    ∙ ap (λ b. slice_get b offset) (sym (has_all page.items offset 0 made))
    ∙ ap (λ (v : Vec ℕ Global). slice_get (page_bytes v.items) offset) c.index-page.ensures
    ∙ sym (byte_inside ps c.args.addr index offset page c.self.invariant l some)
    ∙ ap (λ m. byte_at m c.args.addr) c.self.view_is

pub returns-else-offset-len : goal.returns-else-offset-len
returns-else-offset-len c =
    let ps = c.self.inside.pages.items in
    let page = c.index-page.result.now in
    let index = place_of c.args.addr / 4096 in
    let offset = place_of c.args.addr % 4096 in
    let some : index < length ps = search rules in
    let l = lies c.args.addr (length ps) c.ranges.addr.fits c.self.invariant.few some in
    let few : length page.items < offset + 1 = search rules in
    let within : offset + 1 ≤ 4096 = omega (arith, l.within) in
    let is : IsPage page.items = subst (λ (v : Vec ℕ Global). IsPage v.items) (sym c.index-page.ensures)
    (page_at ps index page c.self.invariant.each some) in
    sym (zero_at offset l.within)
    ∙ ap (λ b. slice_get b offset) (sym (is_blank page.items offset 1 is few within))
    ∙ ap (λ (v : Vec ℕ Global). slice_get (page_bytes v.items) offset) c.index-page.ensures
    ∙ sym (byte_inside ps c.args.addr index offset page c.self.invariant l some)
    ∙ ap (λ m. byte_at m c.args.addr) c.self.view_is
