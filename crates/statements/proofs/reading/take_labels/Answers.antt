use Rattle.statements.proofs.Common.{append-nil, refl, sym, ◌∙◌}
use Rattle.statements.proofs.Labelling.{no_colon, no_label, one_label, one_more}
use Rattle.statements.proofs.reading.take_labels.Goals as goal

pub returns-in_default-label_before-clause-labels : goal.returns-in_default-label_before-clause-labels
returns-in_default-label_before-clause-labels c =
    let n = no_label c.labels.rest.now c.in-Some.prefix.now c.in-Some.after.now (sym c.in-Some.ensures.parts)
    (sym c.in_default-label_before.ensures) in cc (append-nil c.labels.labels.items)

pub returns-in_default-label_before-clause-rest : goal.returns-in_default-label_before-clause-rest
returns-in_default-label_before-clause-rest c =
    let n = no_label c.labels.rest.now c.in-Some.prefix.now c.in-Some.after.now (sym c.in-Some.ensures.parts)
    (sym c.in_default-label_before.ensures) in cc

pub labels-preserved : goal.labels-preserved
labels-preserved c =
    let e = sym c.in-Some.ensures.parts in
    let t = sym c.in-Some-label_before.ensures in
    let one = one_label c.labels.rest.now c.in-Some.prefix.now c.in-Some.after.now c.in-Some-label_before.label e t in record {
      labels =
          one_more _ c.labels.labels.items c.push.new.self.items c.labels.rest.now c.in-Some.prefix.now c.in-Some.after.now c.in-Some-label_before.label c.labels.invariant.labels (c.push.ensures.items ∙ rw c.if-is_err.ensures.negation refl) e t;
      rest = cc;
    }

pub returns-clause-labels : goal.returns-clause-labels
returns-clause-labels c =
    let n = no_colon c.labels.rest.now (sym c.in_default.ensures.parts) in cc (append-nil c.labels.labels.items)

pub returns-clause-rest : goal.returns-clause-rest
returns-clause-rest c = let n = no_colon c.labels.rest.now (sym c.in_default.ensures.parts) in cc
