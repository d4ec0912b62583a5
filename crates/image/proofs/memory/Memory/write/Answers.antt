use Rattle.image.proofs.Common.{ap, arith, fault_at, flat, LacksOne, length, NeedsPage, Ok, put, rules, subst, sym, WritesOrLacks, ◌*◌, ◌+◌, ◌-◌, ◌/◌, ◌<◌, ◌∙◌, ◌≡◌, ◌≤◌}
use Rattle.std.specs.Int.{div_ceil}
use Rattle.image.proofs.Places.{lies_at, lies_low, place_of}
use Rattle.image.proofs.Reading.{no_fault, outside}
use Rattle.image.proofs.Tables.{lacks, still_whole}
use Rattle.image.proofs.Writing.{faults, wrote}
use Rattle.image.proofs.memory.Memory.write.Goals as goal

pub returns-then-end-len : goal.returns-then-end-len
returns-then-end-len c =
    let ps = c.self.inside.pages.items in
    let n = length c.args.bytes.now in
    let some : 1 ≤ n = search rules in
    let past : 4096 * length ps < place_of c.args.addr + n = search rules in
    let fault = outside ps c.args.addr 1 n c.self.invariant c.ranges.addr.fits some (omega arith) past in
    faults c.args.self.now 1 c.args.addr c.args.bytes.now (ap (λ m. fault_at m 1 c.args.addr n) (sym c.self.view_is) ∙ fault)

pub returns-in_default : goal.returns-in_default
returns-in_default c =
    let ps = c.self.inside.pages.items in
    let made = c.make_each.new.pages.items in
    let n = length c.args.bytes.now in
    let some : 1 ≤ n = search rules in
    let within : place_of c.args.addr + n ≤ 4096 * length ps = search rules in
    let low = lies_low c.args.addr (length ps) n c.ranges.addr.fits c.self.invariant.few some within in
    let is = lies_at c.args.addr (length ps) n c.ranges.addr.fits c.self.invariant.few some within in
    let same : flat made ≡ c.args.self.now = c.in_default.ensures.keeps.same ∙ c.self.view_is in
    let whole = still_whole ps made (flat ps) c.self.invariant c.in_default.ensures.keeps in
    let lies : place_of c.args.addr + n ≤ 4096 * length made = omega (arith, within, c.in_default.ensures.keeps.many) in
    let up : div_ceil (place_of c.args.addr + n) 4096 ≡ (place_of c.args.addr + n + 4095) / 4096 = omega arith in
    let last : c.div_ceil-last.result ≡ (place_of c.args.addr + n + 4095) / 4096 = c.div_ceil-last.ensures ∙ up in
    let one = subst (λ k. LacksOne made (place_of c.args.addr / 4096) k) last c.in_default.ensures.lacks in
    (subst (λ m. NeedsPage 1 m c.args.addr n) same (lacks made c.args.addr (place_of c.args.addr) n whole some low is lies one), same)

pub returns : goal.returns
returns c =
    let ps = c.self.inside.pages.items in
    let made = c.make_each.new.pages.items in
    let n = length c.args.bytes.now in
    let some : 1 ≤ n = search rules in
    let within : place_of c.args.addr + n ≤ 4096 * length ps = search rules in
    let low = lies_low c.args.addr (length ps) n c.ranges.addr.fits c.self.invariant.few some within in
    let is = lies_at c.args.addr (length ps) n c.ranges.addr.fits c.self.invariant.few some within in
    let none = no_fault ps c.args.addr 1 n c.self.invariant some low (omega (arith, low, is, within)) (omega arith) in
    let after : flat c.put_bytes.new.pages.items ≡ put (flat ps) (c.args.addr - 65536) c.args.bytes.now =
    c.put_bytes.ensures.same ∙ ap (λ l. put l (place_of c.args.addr) c.args.bytes.now) c.in-Ok.ensures.keeps.same
    ∙ ap (λ k. put (flat ps) k c.args.bytes.now) (sym is) in
    subst (λ m. WritesOrLacks 1 m c.args.addr c.args.bytes.now (Ok tt) (flat c.put_bytes.new.pages.items)) c.self.view_is
    (wrote (flat ps) (flat c.put_bytes.new.pages.items) 1 c.args.addr c.args.bytes.now none after)
