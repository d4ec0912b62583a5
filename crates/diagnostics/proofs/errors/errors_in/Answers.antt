use Rattle.diagnostics.proofs.Common.{Err, refl, whole_error}
use Rattle.diagnostics.proofs.Located.{whole_is}

pub errors_with-requires : Rattle.diagnostics.proofs.errors.errors_in.Goals.errors_with-requires
errors_with-requires c = whole_is (whole_error c.args.text.now) (Err c.in-Err.error) c.in-Err.error refl c.in-Err.ensures.whole
