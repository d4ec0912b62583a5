use Rattle.course.proofs.Common.{AreKnown, arith, List, subst, sym, ℕ}
use Rattle.course.proofs.Remembering.{known_write, written}

pub invariant_of-self : Rattle.course.proofs.machine.Machine.write.Goals.invariant_of-self
invariant_of-self c =
    let m : List ℕ = c.self.inside.memory in
    let w = written 1 m c.args.addr c.args.bytes.now c.write.new.self c.in-Ok.ensures in
    let known = c.forget_words.ensures.forgets m c.self.invariant.0.known in (
      record {
        known = subst (λ (l : List ℕ). AreKnown l 0 0 c.forget_words.new.entries.items) (sym w.1)
            (known_write m 1 c.args.addr c.args.bytes.now c.forget_words.new.entries.items known w.0);
        roomy = omega (arith, c.forget_words.ensures.room, c.self.invariant.0.roomy);
      },
      c.self.invariant.1,
    )
