use Rattle.diagnostics.proofs.Common.{ap, finding_of, told, ◌++◌, ◌∙◌}

pub returns : Rattle.diagnostics.proofs.diagnosing.told.Goals.returns
returns c =
    let found = finding_of c.in_ok-told.told in (
      found,
      ap (λ p. p.0) c.in_ok-told.ensures.error,
      ap (λ p. p.1) c.in_ok-told.ensures.error,
      c.in_ok-told.ensures.column,
      c.in_ok-push_told.ensures ∙ ap (λ b. b ++ told c.args.file.now found) c.new-lines.ensures.bytes,
    )
