use Rattle.std.proofs.Common.{◌∙◌, ap, ◌++◌}
use Rattle.std.proofs.lemmas.Result.{on_ok_weaker}
use Rattle.assembler.proofs.Written.{one_word}

pub returns-clause-ok : Rattle.assembler.proofs.contents.put_word.Goals.returns-clause-ok
returns-clause-ok c =
    on_ok_weaker c.push_all.result
    (λ h. one_word c.args.instr c.encode.result c.args.bytes.now.items _ c.encode.ensures.encodes
    (h ∙ ap (λ l. c.args.bytes.now.items ++ l) c.to_le_bytes.ensures)) c.push_all.ensures.ok
