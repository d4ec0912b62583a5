-- The successes of requests, in a few kinds.
use Rattle.std.specs.Prelude.{ℕ, List, [], false, Option, Some, None}
use Rattle.protocol.specs.declared.refusal.Refusal.{Refusal}
use Rattle.debuggee.specs.Programs.{Program, with_program}
use Rattle.replies.specs.declared.response.Outcome.TheVariants.{Done, Refused}
use Rattle.replies.specs.declared.response.ResponseBody.{ResponseBody}
use Rattle.handlers.specs.declared.terms.Terms.{Terms}
use Rattle.handlers.specs.Given.{Answering, Given}
use Rattle.variables.specs.Laws.Call.{EndStop}

-- one that changes nothing but what is agreed
abbrev pub agreeing : Given → Terms → ResponseBody → Answering
agreeing given terms body =
    record { debuggee = given.debuggee; references = None; terms = terms; outcome = Done body; events = []; closes = false }

-- one that changes the program that is debugged
abbrev pub changing : Given → Terms → (Program → Program) → ResponseBody → Answering
changing given terms f body = record {
  debuggee = with_program f given.debuggee;
  references = None;
  terms = terms;
  outcome = Done body;
  events = [];
  closes = false;
}

-- One that lets it continue: what the stop has shown is stale then.
abbrev pub resuming : Given → Terms → (Program → Program) → ResponseBody → Answering
resuming given terms f body = record (changing given terms f body) { references = Some EndStop }

-- A refused request changes nothing.
abbrev pub refusing : Given → Terms → Refusal → Option (List ℕ) → Answering
refusing given terms refusal text =
    record { debuggee = given.debuggee; references = None; terms = terms; outcome = Refused refusal text; events = []; closes = false }
