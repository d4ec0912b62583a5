use Rattle.rv32i.proofs.Common.{IsDecoding, subst, sym}
use Rattle.rv32i.proofs.Moving.{one_decoding}

pub returns : Rattle.rv32i.proofs.laws.decoding_is_unique.Goals.returns
returns c = λ word d instr. (λ h. one_decoding word instr d.instr h d.is, λ e. subst (IsDecoding word) (sym e) d.is)
