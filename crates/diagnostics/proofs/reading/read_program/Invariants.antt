use Rattle.diagnostics.proofs.Common.{all_read, drop, map, program_of, said_lines, ◌++◌, ◌+◌, ◌≡◌}

abbrev pub invariant-loop-text : Rattle.diagnostics.proofs.reading.read_program.Given.invariant-loop-text
invariant-loop-text l = record {
  count : l.number ≡ l.text-index;
  read : all_read (map (λ t. t.now) l.texts) ≡ all_read (map (λ t. t.now) (drop l.text-index l.texts));
  said : said_lines 1 (map (λ t. t.now) l.texts)
      ≡ program_of l.program.items ++ said_lines (l.number + 1) (map (λ t. t.now) (drop l.text-index l.texts));
}
