-- What a request is answered by, and what an answer is.
use Rattle.std.specs.Prelude.{ℕ, Bool, List, Option}
use Rattle.debuggee.specs.Programs.{Debuggee}
use Rattle.handlers.specs.declared.terms.Terms.{Terms}
use Rattle.replies.specs.declared.event.Event.{Event}
use Rattle.replies.specs.declared.response.Outcome.{Outcome}
use Rattle.variables.specs.Laws.{Call}
use Rattle.variables.specs.Numbers.{Numbers}

-- What is given to an answer, beside what was agreed on the connection: how many bytes of memory a machine gets; the last
-- number that a breakpoint can have; the program that is debugged, with the last number that one was given; and the
-- numbers of the references that are good.
pub record Given : Type 0 where
  pub size : ℕ
  pub last_ref : ℕ
  pub debuggee : Debuggee
  pub numbers : Numbers

-- all that it is lent: that, what was agreed on the connection, and the file that the request names, if it was read
pub record Lent : Type 0 where
  pub given : Given
  pub terms : Terms
  pub file : Option (List ℕ)

-- An answer: what the program that is debugged is first, what becomes of the references, and what is agreed then; what
-- became of the request; what the editor is told after it; and whether the connection takes nothing more then.
pub record Answering : Type 0 where
  pub debuggee : Debuggee
  pub references : Option Call
  pub terms : Terms
  pub outcome : Outcome
  pub events : List Event
  pub closes : Bool
