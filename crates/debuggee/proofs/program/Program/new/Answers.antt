use Rattle.debuggee.proofs.Common.{ap, Debugged, None, Program}
use Rattle.debuggee.specs.declared.run.Run.TheVariants.{Stopped}
use Rattle.debuggee.specs.declared.run.Why.TheVariants.{Entry}
use Rattle.debuggee.proofs.Loading.{just_is}

pub returns : Rattle.debuggee.proofs.program.Program.new.Goals.returns
returns c =
    let with_machine : Debugged
    → Program = λ d. record {
      image = c.args.image;
      path = c.args.path;
      stop_on_entry = c.args.stop_on_entry;
      run = Stopped Entry;
      mark = None;
      machine = d;
      owed = None;
    } in
    ap with_machine (just_is c.args.image c.args.size _ c.in_ok-runner.ensures)
