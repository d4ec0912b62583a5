-- What a machine is after it has lent its breakpoints.
use Rattle.std.specs.Borrow.{Fml, Lends, MutBor}
use Rattle.breakpoints.specs.Stops.{Lists}
use Rattle.breakpoints.specs.contracts.breaks.Breaks as breaks
use Rattle.stepping.specs.Ticks.{Debugged}
use Rattle.stepping.specs.contracts.runner.Runner as runner

-- a machine lends its breakpoints
abbrev pub LendsBreaks : MutBor Debugged → MutBor Lists → Fml
LendsBreaks s r = Lends runner.the_row breaks.the_row s r (λ lists. record s.now { lists = lists })
