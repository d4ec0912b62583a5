use Rattle.image.proofs.Common.{ap, arith, fault_at, flat, Global, IsPage, length, NeedsPage, Ok, rules, slice_set, subst, sym, Vec, WritesOrLacks, ℕ, ◌%◌, ◌+◌, ◌/◌, ◌<◌, ◌∙◌, ◌≤◌}
use Rattle.image.proofs.Flat.{page_at}
use Rattle.image.proofs.Places.{lies, place_of}
use Rattle.image.proofs.Reading.{outside_pages}
use Rattle.image.proofs.Writing.{faults, lacks_in_page, new_length, put_back, whole_set, wrote_in_page}
use Rattle.image.proofs.memory.Memory.store.Goals as goal

pub returns-then-index-len : goal.returns-then-index-len
returns-then-index-len c aligned a =
    let ps = c.self.inside.pages.items in
    let many : length ps ≤ place_of c.args.addr / 4096 = search rules in
    let n = length c.args.bytes.now in
    let fault = outside_pages ps c.args.addr aligned n c.self.invariant c.ranges.addr.fits c.requires.some a many in
    faults c.args.self.now aligned c.args.addr c.args.bytes.now (ap (λ m. fault_at m aligned c.args.addr n) (sym c.self.view_is) ∙ fault)

pub store-requires-clause-page : goal.store-requires-clause-page
store-requires-clause-page c =
    let ps = c.self.inside.pages.items in
    let page = c.index_mut-page.result.now in
    let index = place_of c.args.addr / 4096 in
    let some : index < length ps = search rules in
    subst (λ (v : Vec ℕ Global). IsPage v.items) (sym c.index_mut-page.ensures.value) (page_at ps index page c.self.invariant.each some)

pub returns-in_default : goal.returns-in_default
returns-in_default c aligned a =
    let ps = c.self.inside.pages.items in
    let page = c.index_mut-page.result.now in
    let index = place_of c.args.addr / 4096 in
    let some : index < length ps = search rules in
    let l = lies c.args.addr (length ps) c.ranges.addr.fits c.self.invariant.few some in
    let back = put_back ps index page c.store.new.page c.index_mut-page.ensures.value c.in_default.ensures.err in (
      subst (λ m. NeedsPage aligned m c.args.addr (length c.args.bytes.now)) c.self.view_is
          (lacks_in_page ps c.args.addr index (place_of c.args.addr % 4096) aligned
          (length c.args.bytes.now) page c.self.invariant l some c.requires.some c.requires.within
          a c.index_mut-page.ensures.value c.in_default.ensures.needs),
      ap flat back ∙ c.self.view_is,
    )

pub invariant_of-self-2 : goal.invariant_of-self-2
invariant_of-self-2 c =
    let ps = c.self.inside.pages.items in
    let page = c.index_mut-page.result.now in
    let index = place_of c.args.addr / 4096 in
    let offset = place_of c.args.addr % 4096 in
    let some : index < length ps = search rules in
    let l = lies c.args.addr (length ps) c.ranges.addr.fits c.self.invariant.few some in
    let within : offset + length c.args.bytes.now ≤ 4096 = omega (arith, l.low, l.place, l.within, c.requires.within) in
    let is : IsPage page.items = subst (λ (v : Vec ℕ Global). IsPage v.items) (sym c.index_mut-page.ensures.value)
    (page_at ps index page c.self.invariant.each some) in
    whole_set ps index c.store.new.page c.self.invariant
    (new_length page.items c.store.new.page.items c.args.bytes.now offset is within c.in-Ok.ensures.ok)

pub returns : goal.returns
returns c aligned a =
    let ps = c.self.inside.pages.items in
    let page = c.index_mut-page.result.now in
    let index = place_of c.args.addr / 4096 in
    let offset = place_of c.args.addr % 4096 in
    let some : index < length ps = search rules in
    let l = lies c.args.addr (length ps) c.ranges.addr.fits c.self.invariant.few some in
    let wrote = wrote_in_page ps c.args.addr index offset aligned c.args.bytes.now page c.store.new.page c.self.invariant l some
    c.requires.some c.requires.within a c.index_mut-page.ensures.value c.in-Ok.ensures.ok in
    subst (λ m. WritesOrLacks aligned m c.args.addr c.args.bytes.now (Ok tt)
    (flat (slice_set ps index c.store.new.page))) c.self.view_is wrote
