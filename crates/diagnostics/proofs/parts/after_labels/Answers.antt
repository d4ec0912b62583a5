use Rattle.std.proofs.Common.{sym, ◌∙◌}
use Rattle.byte_strings.specs.Blanks.{without_leading_blanks}
use Rattle.statements.proofs.Labelling.{no_colon, no_label, one_label}
use Rattle.diagnostics.proofs.Fields.{a_label, not_a_label}
use Rattle.diagnostics.proofs.parts.after_labels.Goals as goal

pub returns-else-is_label : goal.returns-else-is_label
returns-else-is_label c =
    sym (c.labels.invariant
    ∙ (no_label c.labels.rest.now c.in-Some.prefix.now c.in-Some.after.now (sym c.in-Some.ensures.parts)
    (not_a_label c.in-Some.prefix.now (sym c.is_label.ensures ∙ c.if-is_label.false))).1)

pub labels-preserved : goal.labels-preserved
labels-preserved c =
    c.labels.invariant
    ∙ (one_label c.labels.rest.now c.in-Some.prefix.now c.in-Some.after.now (without_leading_blanks c.in-Some.prefix.now)
    (sym c.in-Some.ensures.parts) (a_label c.in-Some.prefix.now (sym c.is_label.ensures ∙ c.if-is_label.true))).1

pub returns : goal.returns
returns c = sym (c.labels.invariant ∙ (no_colon c.labels.rest.now (sym c.in_default.ensures.parts)).1)
