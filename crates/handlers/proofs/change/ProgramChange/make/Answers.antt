use Rattle.std.proofs.Common.{◌≡◌, OnOk, subst, sym}
use Rattle.handlers.specs.declared.change.ProgramChange.{ProgramChange}
use Rattle.handlers.specs.Changes.{changed_one}

pub returns-in-Restart-clause-ok : Rattle.handlers.proofs.change.ProgramChange.make.Goals.returns-in-Restart-clause-ok
returns-in-Restart-clause-ok c =
    subst (λ (x : ProgramChange). OnOk c.start_anew.result (c.start_anew.new.program ≡ changed_one x c.args.program.now))
    (sym c.in-Restart.is) c.start_anew.ensures.ok
