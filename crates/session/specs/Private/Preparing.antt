-- An answer that is written before anything is changed or queued.
use Rattle.std.specs.Prelude.{◌≡◌, Option}
use Rattle.replies.specs.declared.message.Message.TheVariants.{Response}
use Rattle.session.specs.declared.limits.Limits.{Limits}
use Rattle.session.specs.declared.link.Link.{Link}
use Rattle.queues.specs.declared.pending.Pending.{Pending}
use Rattle.session.specs.declared.prepared.Prepared.{Prepared}
use Rattle.handlers.specs.Given.{Answering}
use Rattle.session.specs.Acts.{Now}
use Rattle.handlers.specs.Changes.{call_of, changed}
use Rattle.session.specs.Kept.{Drafted, draft_on, drafted, drafted_all}
use Rattle.handlers.specs.Refusals.{response_to}

-- an answer with what is told after it, by the answer to the first request
abbrev pub draft_of : Limits → Option Link → Pending → Answering → Drafted
draft_of limits link p a =
    drafted_all limits a.events (drafted limits (Response (response_to p.ask a.outcome)) (draft_on limits link))

-- an answer that was written: its change, what is agreed, and whether it closes are those of the answer
pub record IsPrepared (now : Now) (p : Pending) (a : Answering) (prepared : Prepared) : Type 0 where
  pub debuggee : changed prepared.change now.debuggee ≡ a.debuggee
  pub references : call_of prepared.change ≡ a.references
  pub terms : prepared.terms ≡ a.terms
  pub closes : prepared.closes ≡ a.closes
  pub draft : prepared.draft ≡ draft_of now.limits now.link p a
