use Rattle.session.proofs.Common.{ap, first_pending, Kept, run_of, sym, ◌∙◌}
use Rattle.std.specs.Option.{option_copied}

pub returns-in-Some-first : Rattle.session.proofs.state.State.wants_file.Goals.returns-in-Some-first
returns-in-Some-first c =
    let link = sym (ap (λ (x : Kept). x.now.link) c.self.view_is) ∙ c.in-Some.is in
    let first = sym (ap option_copied c.in-Some-first.is) ∙ c.first.ensures ∙ ap
    (λ (x : Kept). first_pending x.now.arrivals.pending) c.self.view_is in
    Rattle.session.proofs.Wanting.wants_first c.args.self.now.now c.in-Some.link c.run_of-run.result c.in-Some-first.first.now _ link
    (c.run_of-run.ensures ∙ ap (λ (x : Kept). run_of x.now.debuggee.program) c.self.view_is) first c.wanted_by.ensures
