-- Which request a turn answers, and with what.
--
-- What is owed is told first, and where more than 65,536 bytes wait nothing is answered. Else the first request that
-- waits is.
use Rattle.std.specs.Prelude.{nat_lt, if◌then◌else◌, List, [], ◌∷◌, Option, Some, None, ℕ}
use Rattle.debuggee.specs.Programs.{Program}
use Rattle.handlers.specs.Given.{Answering}
use Rattle.session.specs.declared.link.Link.{Link}
use Rattle.queues.specs.declared.pending.Pending.{Pending}
use Rattle.session.specs.declared.state.TheConstants.{FULL}
use Rattle.session.specs.Acts.{Seen}
use Rattle.session.specs.Outcomes.{answer_to}
use Rattle.stepping.specs.declared.tick.Tick.{Tick}

-- a request that is answered, and its answer
pub record Answered : Type 0 where
  pub request : Pending
  pub answer : Answering

-- the first that waits
abbrev pub first_answered : Seen → Link → Option (List ℕ) → List Pending → Option Answered
first_answered seen link file [] = None
first_answered seen link file (p ∷ rest) =
    Some (record { request = p; answer = answer_to seen.now link.terms file p })

-- where nothing is owed
abbrev pub next_answered : Seen → Link → Option (List ℕ) → Option Answered
next_answered seen link file =
    if nat_lt FULL seen.waits then None else first_answered seen link file seen.now.arrivals.pending

abbrev pub answered_by : Option Tick → Seen → Link → Option (List ℕ) → Option Answered
answered_by (Some tick) seen link file = None
answered_by None seen link file = next_answered seen link file

abbrev pub answered_with : Option Program → Seen → Link → Option (List ℕ) → Option Answered
answered_with None seen link file = next_answered seen link file
answered_with (Some p) seen link file = answered_by p.owed seen link file

abbrev pub answered_on : Option Link → Seen → Option (List ℕ) → Option Answered
answered_on None seen file = None
answered_on (Some link) seen file = answered_with seen.now.debuggee.program seen link file

-- the request that a turn answers, if it answers one
abbrev pub answered : Seen → Option (List ℕ) → Option Answered
answered seen file = answered_on seen.now.link seen file
