use Rattle.diagnostics.proofs.Common.{All-map, ap, finding_of, findings_of, HasColumn, ◌∙◌}
use Rattle.diagnostics.specs.Json.{diagnosis_json}

pub returns : Rattle.diagnostics.proofs.json.diagnose_json.Goals.returns
returns c = (
  findings_of c.in_ok-list.list.items,
  record {
    errors = c.in_ok-list.ensures.errors;
    columns = All-map HasColumn finding_of c.in_ok-list.list.items c.in_ok-list.ensures.columns;
  },
  c.in_ok-lines.ensures ∙ ap (λ l. diagnosis_json c.args.file.now (findings_of l)) c.as_slice.ensures.value,
)
