use Rattle.std.proofs.Common.{◌%◌, sym, ap, ◌∙◌}
use Rattle.rv32i.proofs.Candidates.{names_none}
use Rattle.rv32i.proofs.Texts.{differ}

pub returns : Rattle.rv32i.proofs.names.reg_in.Goals.returns
returns c = names_none c.args.bytes.now _ (ap (λ n. n % 32) c.candidate-number.ensures)
    (λ e. differ _ _ c.if-eq.ensures (e ∙ sym c.as_slice.ensures))
    (λ e. differ _ _ c.if-eq-2.ensures (e ∙ sym (c.as_bytes.ensures.value ∙ c.reg_name.ensures)))
    (λ e. differ _ _ c.if-eq-3.ensures (e ∙ sym (c.as_bytes-else-eq-2.ensures.value ∙ c.numbered_name.ensures)))
