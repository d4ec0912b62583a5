use Rattle.std.proofs.Common.{◌∙◌, refl, sym, arith}
use Rattle.framing.proofs.Ends.{mark_bytes, mark_read, past_more, past_start, size_here, size_nowhere}
use Rattle.framing.proofs.header.header_size.Goals as goal
use Rattle.framing.proofs.header.header_size.Goals.{else-bytes-i-eq-CR-via-then-bytes-i-eq-CR+then-bytes-i-eq-LF+then-bytes-i-eq-CR-2+else-bytes-i-eq-LF-2, else-bytes-i-eq-CR-via-then-bytes-i-eq-CR+then-bytes-i-eq-LF+else-bytes-i-eq-CR-2, else-bytes-i-eq-CR-via-then-bytes-i-eq-CR+else-bytes-i-eq-LF, else-bytes-i-eq-CR-via-else-bytes-i-eq-CR}

pub loop-i-init : goal.loop-i-init
loop-i-init c = past_start c.args.bytes.now c.max-i.result c.args.searched c.requires (grind arith)

pub returns-then-bytes-i-eq-LF-2-clause-size : goal.returns-then-bytes-i-eq-LF-2-clause-size
returns-then-bytes-i-eq-LF-2-clause-size c =
    sym (size_here c.args.bytes.now c.loop-i.i c.loop-i.invariant (omega arith) (omega arith)
    (mark_read c.args.bytes.now c.loop-i.i (omega arith) (omega arith)
    ∙ rw (c.if-bytes-i-eq-CR.true, c.if-bytes-i-eq-LF.true, c.if-bytes-i-eq-CR-2.true, c.if-bytes-i-eq-LF-2.true) refl))

pub loop-i-preserved : goal.loop-i-preserved
loop-i-preserved c =
    past_more c.args.bytes.now c.loop-i.i c.loop-i.invariant
    (λ m. let q = mark_bytes c.args.bytes.now c.loop-i.i (omega arith) (omega arith) m in elim c.else-bytes-i-eq-CR.branch [
      | else-bytes-i-eq-CR-via-then-bytes-i-eq-CR+then-bytes-i-eq-LF+then-bytes-i-eq-CR-2+else-bytes-i-eq-LF-2 w ↦ w.if-bytes-i-eq-LF-2.false q.3
      | else-bytes-i-eq-CR-via-then-bytes-i-eq-CR+then-bytes-i-eq-LF+else-bytes-i-eq-CR-2 w ↦ w.if-bytes-i-eq-CR-2.false q.2
      | else-bytes-i-eq-CR-via-then-bytes-i-eq-CR+else-bytes-i-eq-LF w ↦ w.if-bytes-i-eq-LF.false q.1
      | else-bytes-i-eq-CR-via-else-bytes-i-eq-CR w ↦ w.if-bytes-i-eq-CR.false q.0
    ])

pub returns-clause-size : goal.returns-clause-size
returns-clause-size c = sym (size_nowhere c.args.bytes.now c.loop-i.i c.loop-i.invariant (grind arith))
