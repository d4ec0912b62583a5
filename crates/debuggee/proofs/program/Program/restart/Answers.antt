use Rattle.debuggee.proofs.Common.{ap, Debugged, Program, restarted, ◌∙◌}
use Rattle.debuggee.proofs.Loading.{anew_is, on_ok}

pub returns-clause-ok : Rattle.debuggee.proofs.program.Program.restart.Goals.returns-clause-ok
returns-clause-ok c =
    let p : Program = record {
      image = c.self.inside.image;
      path = c.self.inside.path;
      stop_on_entry = c.self.inside.stop_on_entry;
      run = c.self.inside.run;
      mark = c.self.inside.mark;
      machine = c.self.inside.runner;
      owed = c.self.inside.owed;
    } in
    on_ok _ _ c.reload.result
    (λ h. ap (λ (d : Debugged). record p { machine = d }) (anew_is c.self.inside.image c.self.inside.runner c.reload.new.self h)
    ∙ ap restarted c.self.view_is)
    c.reload.ensures.ok
