use Rattle.rvdap.proofs.debug.lines.take_line.Goals as goal
use Rattle.rvdap.proofs.Lines.{line_taken}

pub returns-in_ok-skip_until : goal.returns-in_ok-skip_until
returns-in_ok-skip_until g c = line_taken (g.R.Read.remaining c.args.reader.now) c.take_some.new.came.items c.in_ok-take_some.ensures

pub returns-else-is_cut_off : goal.returns-else-is_cut_off
returns-else-is_cut_off g c = line_taken (g.R.Read.remaining c.args.reader.now) c.take_some.new.came.items c.in_ok-take_some.ensures
