-- An execution ends where a run stops.
use Rattle.std.proofs.Common.{◌≡◌, ℕ, zero, suc, inl, inr, false, List, refl}
use Rattle.stepping.proofs.Ticking.{ticks_say_where}
use Rattle.stepping.specs.Goals.{turns_back}
use Rattle.stepping.specs.RunLaws.{GoOn, Says, number_after}
use Rattle.stepping.specs.Ticks.{Debugged}
use Rattle.stepping.specs.declared.tick.Outcome.{Outcome}
use Rattle.stepping.specs.declared.tick.Outcome.TheVariants as outcome
use Rattle.execution.specs.Executions.{Does, EndsBefore, Goes}
use Rattle.execution.specs.Laws.{EndsWhereARunStops, StopsBefore, WentOn}
use Rattle.execution.specs.declared.end.ExecutionEnd.{ExecutionEnd}
use Rattle.execution.specs.declared.end.ExecutionEnd.TheVariants.{Ended, Stopped, Limit, OutputLimit}

go_on : (n : ℕ) (start after : Debugged) (lines : List ℕ) → Goes n start lines after → GoOn n start after
go_on zero start after lines g = g.1
go_on (suc n) start after lines (before, earlier, line, g, (number, tick, l), e) =
    (before, _, (go_on n start before earlier g, (number, refl), tick))

says : (out : Outcome) (n : ℕ) (start before after : Debugged) (earlier line : List ℕ) → turns_back start.goal ≡ false
    → Goes n start earlier before
    → Does out before line after
    → Says (number_after n start) out start after
says out n start before after earlier line forward g (number, tick, l) =
    ticks_say_where n start before after _ forward (go_on n start before earlier g) tick

went_on : (n : ℕ) (start after : Debugged) (lines : List ℕ) → turns_back start.goal ≡ false → Goes n start lines after → WentOn n start after
went_on zero start after lines forward g = g.1
went_on (suc n) start after lines forward (before, earlier, line, g, does, e) =
    says outcome.Went n start before after earlier line forward g does

stops_before : (limit : ℕ) (end : ExecutionEnd) (start after : Debugged) (lines : List ℕ) → turns_back start.goal ≡ false
    → EndsBefore limit end start lines after → StopsBefore limit end start after
stops_before limit (Ended code) start after lines forward (ticks, below, m) =
    (ticks, below, says (outcome.Ended code) ticks start m.before after m.earlier m.line forward m.goes m.last)
stops_before limit (Stopped reason) start after lines forward (ticks, below, m) =
    (ticks, below, says (outcome.Stopped reason) ticks start m.before after m.earlier m.line forward m.goes m.last)
stops_before limit Limit start after lines forward h = h
stops_before limit OutputLimit start after lines forward h = h

pub ends_where_a_run_stops : EndsWhereARunStops
ends_where_a_run_stops limit (Ended code) start after lines forward h = stops_before limit (Ended code) start after lines forward h
ends_where_a_run_stops limit (Stopped reason) start after lines forward h = stops_before limit (Stopped reason) start after lines forward h
ends_where_a_run_stops limit Limit start after lines forward g = went_on limit start after lines forward g
ends_where_a_run_stops limit OutputLimit start after lines forward (inl (ticks, few, g)) = inl (ticks, few, went_on ticks start after lines forward g)
ends_where_a_run_stops limit OutputLimit start after lines forward (inr (end, h)) = inr (end, stops_before limit end start after lines forward h)
