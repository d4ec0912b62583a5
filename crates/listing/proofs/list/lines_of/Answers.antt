use Rattle.std.proofs.Common.{refl}
use Rattle.listing.proofs.Whole.{whole_passed}

pub returns-in-Err-clause-whole : Rattle.listing.proofs.list.lines_of.Goals.returns-in-Err-clause-whole
returns-in-Err-clause-whole c =
    whole_passed c.args.text.now c.in-Err.error c.fault_of.result _ _ c.fault_of.ensures refl refl c.in-Err.ensures.whole
