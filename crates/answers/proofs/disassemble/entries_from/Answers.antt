use Rattle.answers.proofs.Common.{ap, arith, ints, of_z, pos, to_z, w64, ℤ, ◌*ℤ◌, ◌*◌, ◌+ℤ◌, ◌∙◌, ◌≡◌}
use Rattle.answers.specs.Disassemble as spec
use Rattle.answers.proofs.Places.{all_made, one_more}
use Rattle.answers.proofs.disassemble.entries_from.Goals as goal

pub loop-index-preserved : goal.loop-index-preserved
loop-index-preserved c =
    let first : ℤ = to_z w64 (of_z w64 c.args.first) in
    let place : ℤ = to_z w64 (of_z w64 (first +ℤ to_z w64 (of_z w64 (pos 4 *ℤ to_z w64 (of_z w64 c.from.result))))) in
    let at : place ≡ first +ℤ pos (4 * c.loop-index.index) = omega
    (arith, ints, c.from.ensures, c.ranges.first.sfits, c.requires.low, c.requires.high, c.requires.few, c.loop-index-test.true) in
    one_more c.args.memory.now first c.args.count c.loop-index.index place c.loop-index.entries.items c.push.new.self.items _ c.in_ok-entry.field-0 c.loop-index-test.true c.in_ok-entry.ensures at c.in_ok-push.ensures.items c.loop-index.invariant

pub returns : goal.returns
returns c =
    let same : to_z w64 (of_z w64 c.args.first) ≡ c.args.first = omega (arith, ints, c.ranges.first.sfits) in
    all_made c.args.memory.now (to_z w64 (of_z w64 c.args.first)) c.args.count c.loop-index.index c.loop-index.entries.items _
    (omega (arith, c.loop-index-test.false))
    (c.loop-index.invariant ∙ ap (λ (p : ℤ). spec.entries_from c.args.memory.now p c.args.count) same)
