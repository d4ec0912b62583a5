use Rattle.diagnostics.proofs.Common.{drop, findings_of, flat_map, string_bytes, told, ◌++◌, ◌≡◌}

abbrev pub invariant-loop-told : Rattle.diagnostics.proofs.diagnosing.all_lines.Given.invariant-loop-told
invariant-loop-told l = flat_map (told l.file) (findings_of l.list)
    ≡ string_bytes l.lines ++ flat_map (told l.file) (findings_of (drop l.told-index l.list))
