use Rattle.framing.proofs.Common.{ap, arith, drop, lines_of, refl, sym, take, take_rest, ◌+◌, ◌-◌, ◌∙◌, ◌∷◌, ◌≡◌}
use Rattle.framing.proofs.LineLemmas.{onto_line, line_more, line_here, line_all}
use Rattle.framing.proofs.header.split_line.Goals as goal
use Rattle.framing.proofs.header.split_line.Goals.{else-lines-i-eq-CR-via-then-lines-i-eq-CR+else-lines-i-eq-LF, else-lines-i-eq-CR-via-else-lines-i-eq-CR}

pub loop-i-init : goal.loop-i-init
loop-i-init c = refl

pub loop-i-preserved : goal.loop-i-preserved
loop-i-preserved c =
    let text = c.args.lines.now in
    let i = c.loop-i.i in
    let more = line_more text i c.loop-i.auto.i c.loop-i-test.true
    (elim c.else-lines-i-eq-CR.branch [
      | else-lines-i-eq-CR-via-then-lines-i-eq-CR+else-lines-i-eq-LF w ↦ λ _ h. w.if-lines-i-eq-LF.false h
      | else-lines-i-eq-CR-via-else-lines-i-eq-CR w ↦ λ h _. w.if-lines-i-eq-CR.false h
    ]) c.loop-i.invariant in
    let e : i + 1 - 1 ≡ i = omega arith in
    more ∙ ap (λ n. onto_line (take n text) (lines_of (drop n text))) (sym e)

pub returns-then-lines-i-eq-LF-clause-lines : goal.returns-then-lines-i-eq-LF-clause-lines
returns-then-lines-i-eq-LF-clause-lines c =
    let text = c.args.lines.now in
    let i = c.loop-i.i in
    line_here text i c.loop-i.auto.i c.loop-i-test.true c.if-lines-i-eq-CR.true c.if-lines-i-eq-LF.true c.loop-i.invariant
    ∙ ap (λ x. take (i - 1) text ∷ lines_of x) (sym (take_rest text (i + 1)))

pub returns-clause-lines : goal.returns-clause-lines
returns-clause-lines c = line_all c.args.lines.now c.loop-i.i c.loop-i-test.false c.loop-i.invariant
