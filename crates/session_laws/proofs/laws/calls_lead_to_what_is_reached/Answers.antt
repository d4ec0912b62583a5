use Rattle.session_laws.proofs.Common.{start, whole_events}
use Rattle.session_laws.proofs.Calls.{calls_lead, leads_on}
use Rattle.session_laws.proofs.laws.calls_lead_to_what_is_reached.Goals as goal

pub returns-clause-calls : goal.returns-clause-calls
returns-clause-calls c = calls_lead

pub returns-clause-joined : goal.returns-clause-joined
returns-clause-joined c = leads_on

pub returns-clause-events : goal.returns-clause-events
returns-clause-events c = λ from events. whole_events events (start from)
