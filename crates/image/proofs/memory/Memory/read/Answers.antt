use Rattle.image.proofs.Common.{ap, arith, bytes_at, fault_at, length, memory_after, rules, sym, unless_fault, ◌*◌, ◌+◌, ◌<◌, ◌∙◌, ◌≤◌}
use Rattle.image.proofs.Places.{place_of}
use Rattle.image.proofs.Reading.{outside}
use Rattle.image.proofs.memory.Memory.read.Goals as goal

pub returns-then-place-into-clause-answers : goal.returns-then-place-into-clause-answers
returns-then-place-into-clause-answers c =
    let ps = c.self.inside.pages.items in
    let n = length c.args.into.now in
    let some : 1 ≤ n = search rules in
    let past : 4096 * length ps < place_of c.args.addr + n = search rules in
    let fault = outside ps c.args.addr 1 n c.self.invariant c.ranges.addr.fits some (omega arith) past in
    sym (ap (λ f. unless_fault f (tt {0})) (ap (λ m. fault_at m 1 c.args.addr n) (sym c.self.view_is) ∙ fault))

pub returns-then-place-into-clause-leaves : goal.returns-then-place-into-clause-leaves
returns-then-place-into-clause-leaves c =
    let ps = c.self.inside.pages.items in
    let n = length c.args.into.now in
    let some : 1 ≤ n = search rules in
    let past : 4096 * length ps < place_of c.args.addr + n = search rules in
    let fault = outside ps c.args.addr 1 n c.self.invariant c.ranges.addr.fits some (omega arith) past in
    sym (ap (λ f. memory_after f (bytes_at c.args.self.now c.args.addr n) c.args.into.now)
    (ap (λ m. fault_at m 1 c.args.addr n) (sym c.self.view_is) ∙ fault))
