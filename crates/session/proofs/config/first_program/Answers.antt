use Rattle.std.proofs.Common.{ap, Some}

pub returns-in_ok-program-in-Some : Rattle.session.proofs.config.first_program.Goals.returns-in_ok-program-in-Some
returns-in_ok-program-in-Some c =
    let h = rw c.as_slice.ensures at c.in_ok-program-in-Some.ensures in rw c.in-Some.is (h.0, ap (λ x. Some x) h.1)
