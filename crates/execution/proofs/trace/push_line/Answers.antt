pub returns : Rattle.execution.proofs.trace.push_line.Goals.returns
returns c =
    Rattle.execution.proofs.Told.on_ok c.push_words.result (λ is. (
      _,
      record {
        text = c.as_str.result.now;
        is_text = rw c.as_str.ensures.value c.in_ok-text.ensures;
        instr = c.decode.result;
        decoded = c.decode.ensures;
        all = Rattle.std.proofs.Common.refl;
      },
      is,
    )) c.push_words.ensures
