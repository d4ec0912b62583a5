use Rattle.std.proofs.Common.{ap, ◌∙◌}
use Rattle.session.specs.declared.event.Event.TheVariants.{Connect}
use Rattle.session.specs.Sessions.{Effect}
use Rattle.rvdap.specs.ExitReasons.{exit_reason_of}
use Rattle.rvdap.proofs.Connecting.{connected}

pub returns : Rattle.rvdap.proofs.serving.serve_one.Goals.returns
returns g c s st = record {
  end = c.drive_told-end.result;
  told = _;
  connects = c.tell.ensures;
  driven =
      c.drive_told-end.ensures (Effect s Connect)
      (connected c.args.session.now c.connect.new.self c.connect.result c.connect.ensures.takes_none c.connect.ensures.stands s st);
  is_ending = c.exit_reason_of.ensures ∙ ap (exit_reason_of c.drive_told-end.result) c.link_fault.ensures;
}
