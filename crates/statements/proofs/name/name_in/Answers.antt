use Rattle.std.proofs.Common.{sym}
use Rattle.statements.proofs.Registers.{name_is_utf8}

pub returns-in-Err : Rattle.statements.proofs.name.name_in.Goals.returns-in-Err
returns-in-Err c = absurd (c.in-Err.ensures.cases.0 (name_is_utf8 _ (sym c.if-not-is_name.ensures)))
