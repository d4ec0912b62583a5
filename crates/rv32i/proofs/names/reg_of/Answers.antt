use Rattle.std.proofs.Common.{subst}
use Rattle.rv32i.specs.Names.{NamesOrNot}

pub returns : Rattle.rv32i.proofs.names.reg_of.Goals.returns
returns c = subst (λ t. NamesOrNot t c.reg_in.result) c.as_bytes.ensures.value c.reg_in.ensures
