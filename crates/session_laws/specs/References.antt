-- A reference is answered only in the stop and on the connection that issued it.
--
-- The messages of a connection were queued one after the other. Each success of a request that names a frame or a scope
-- was queued by a turn; when that turn came, its connection lasted, and the number was one that had been issued on it, in
-- the stop that lasted. It is that very turn which queued it.
use Rattle.std.specs.Prelude.{◌≡◌, ℕ, ℤ, true, List, [], ◌∷◌, ◌++◌, Option, Some, None, is_some, option_and_then}
use Rattle.protocol.specs.declared.request.Request.{Request as ARequest}
use Rattle.replies.specs.declared.message.Message.{Message}
use Rattle.replies.specs.declared.message.Message.TheVariants.{Response as IsResponse, Event as IsEvent}
use Rattle.replies.specs.declared.response.Outcome.{Outcome}
use Rattle.replies.specs.declared.response.Outcome.TheVariants.{Done, Refused}
use Rattle.session.specs.Prefixes.{IsPrefixOf}
use Rattle.session.specs.Reached.{Happened, Whole, Reached}
use Rattle.session.specs.Sessions.{Beginning, Said, life_of}
use Rattle.session.specs.declared.event.Event.TheVariants.{Turn}
use Rattle.queues.specs.declared.pending.Ask.{Ask}
use Rattle.session_laws.specs.Lifetimes.{IsGood, reference_in}
use Rattle.session_laws.specs.Known.{first_asked}

-- the number that a request names, where it succeeded
abbrev pub named_by : Outcome → Option ARequest → Option ℤ
named_by (Done body) request = option_and_then (λ r. reference_in r.command) request
named_by (Refused refusal text) request = None

-- the number that the request names which a success answers
abbrev pub reference_of : List Ask → Message → Option ℤ
reference_of heard (IsResponse r) = named_by r.outcome (first_asked heard r.request_seq)
reference_of heard (IsEvent e) = None

-- A message of a connection, after these of it, was queued by a turn. When that came, the connection lasted, none but
-- these had been queued on it, and this number was good.
pub record WasGood (from : Beginning) (events : List Happened) (c : ℕ) (earlier : List Said) (m : Said) (number : ℤ) : Type 0 where
  pub before : List Happened
  pub file : Option (List ℕ)
  pub rest : List Happened
  pub turn : before ++ Whole (Turn file) ∷ rest ≡ events
  pub connection : (Reached from before).now.connections ≡ c
  pub lasts : is_some (Reached from before).now.link ≡ true
  pub said : (life_of c (Reached from before)).said ≡ earlier
  pub queued : IsPrefixOf (earlier ++ m ∷ []) (life_of c (Reached from (before ++ Whole (Turn file) ∷ []))).said
  pub good : IsGood (Reached from before) number

-- It is so of each success that answers a request which names a reference.
abbrev pub ReferencesWereGood : Beginning → List Happened → Type 0
ReferencesWereGood from events = (c : ℕ) (earlier later : List Said) (m : Said) (number : ℤ) → let life = life_of c (Reached from events) in
    life.said ≡ earlier ++ m ∷ later → reference_of life.heard m.message ≡ Some number → WasGood from events c earlier m number
