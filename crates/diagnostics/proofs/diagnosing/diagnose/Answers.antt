use Rattle.diagnostics.proofs.Common.{All-map, ap, diagnosis, finding_of, findings_of, HasColumn, ◌∙◌}

pub returns : Rattle.diagnostics.proofs.diagnosing.diagnose.Goals.returns
returns c = (
  findings_of c.in_ok-list.list.items,
  record {
    errors = c.in_ok-list.ensures.errors;
    columns = All-map HasColumn finding_of c.in_ok-list.list.items c.in_ok-list.ensures.columns;
  },
  c.in_ok-lines.ensures ∙ ap (λ l. diagnosis c.args.file.now (findings_of l)) c.as_slice.ensures.value,
)
