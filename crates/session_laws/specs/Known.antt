-- The request that a success answers (DAP specification, `Response.request_seq`, `Response.command`).
--
-- An editor knows its own requests. A response names one by its number. A number may come twice: the second request is a
-- repeat then, and is refused. So whoever keeps the first request of each number knows what a success is the answer to.
use Rattle.std.specs.Prelude.{◌≡◌, ℕ, ◌==◌, if◌then◌else◌, List, [], ◌∷◌, Option, Some, None, All, ⊤, codes, refl}
use Rattle.protocol.specs.Commands.{name_of}
use Rattle.protocol.specs.declared.command.Command.TheVariants.{Threads}
use Rattle.protocol.specs.declared.refusal.Refusal.TheVariants.{BadArguments}
use Rattle.protocol.specs.declared.request.Request.{Request as ARequest}
use Rattle.replies.specs.declared.message.Message.{Message}
use Rattle.replies.specs.declared.message.Message.TheVariants.{Response as IsResponse, Event as IsEvent}
use Rattle.replies.specs.declared.response.Outcome.{Outcome}
use Rattle.replies.specs.declared.response.Outcome.TheVariants.{Done, Refused}
use Rattle.queues.specs.declared.pending.Ask.{Ask}
use Rattle.queues.specs.declared.pending.Ask.TheVariants.{Request, Bad}
use Rattle.session.specs.Sessions.{Session, Life, Said, life_of}

-- the first of these requests that has this number
abbrev pub first_asked : List Ask → ℕ → Option ARequest
first_asked [] number = None
first_asked (Request r ∷ asks) number = if r.seq == number then Some r else first_asked asks number
first_asked (Bad seq command refusal ∷ asks) number = first_asked asks number

-- the first request of that number came, and has that name
pub record IsKnown (asks : List Ask) (number : ℕ) (name : List ℕ) : Type 0 where
  pub request : ARequest
  pub first : first_asked asks number ≡ Some request
  pub named : name_of request.command ≡ name

-- a success is known
abbrev pub IsKnownBy : List Ask → ℕ → List ℕ → Outcome → Type 0
IsKnownBy asks number name (Done body) = IsKnown asks number name
IsKnownBy asks number name (Refused refusal text) = ⊤

-- what a message says of a success is known
abbrev pub IsKnownIn : List Ask → Message → Type 0
IsKnownIn asks (IsResponse r) = IsKnownBy asks r.request_seq r.command r.outcome
IsKnownIn asks (IsEvent e) = ⊤

-- what all messages of a connection say is known, by the requests that came on it
abbrev pub AllKnown : Life → Type 0
AllKnown life = All (λ (m : Said). IsKnownIn life.heard m.message) life.said

-- Each success answers the first request of its number, and has its name.
abbrev pub SuccessesAreKnown : Session → Type 0
SuccessesAreKnown s = (c : ℕ) → AllKnown (life_of c s)

-- ---- examples

abbrev two_requests : List Ask
two_requests = Bad 1 (codes "next") BadArguments ∷ Request (record { seq = 2; command = Threads }) ∷ []

the_second : first_asked two_requests 2 ≡ Some (record { seq = 2; command = Threads })
the_second = refl

none_is_first : first_asked two_requests 1 ≡ None
none_is_first = refl
