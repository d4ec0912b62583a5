use Rattle.std.proofs.lemmas.Result.{IfOk-weaker}

pub returns : Rattle.execution.proofs.fault_words.fault_text.Goals.returns
returns c =
    IfOk-weaker c.words.result _ _ (λ told is. (c.as_str.result.now, rw c.as_str.ensures.value c.in_ok-text.ensures, is)) c.words.ensures
