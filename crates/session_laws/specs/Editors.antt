-- An editor on a connection.
--
-- It tells its mirror each request that it sends, and feeds it the bytes that come, in any pieces and in any turn. The
-- bytes arrive unchanged and in order, so what it has fed is a prefix of what was queued; and before the last byte of a
-- success it has told the request that the success answers: the first of that number, which is the first of it that the
-- adapter read.
use Rattle.std.specs.Prelude.{◌≡◌, ℕ, ◌==◌, if◌then◌else◌, List, [], ◌∷◌, ◌++◌, map, take, length, All, Option, Some, None, true, codes, refl, ⊤}
use Rattle.mirror.specs.Streams.{Input}
use Rattle.mirror.specs.Streams.Input.{Sent, Fed}
use Rattle.protocol.specs.declared.request.Request.{Request as ARequest}
use Rattle.replies.specs.declared.message.Message.{Message}
use Rattle.replies.specs.declared.message.Message.TheVariants.{Response as IsResponse, Event as IsEvent}
use Rattle.session.specs.Kinds.{is_success}
use Rattle.session.specs.Prefixes.{IsPrefixOf}
use Rattle.session.specs.Sessions.{Life, Said, bytes_of}
use Rattle.queues.specs.declared.pending.Ask.{Ask}
use Rattle.queues.specs.declared.pending.Ask.TheVariants.{Request, Bad}
use Rattle.session_laws.specs.Concluding.{told_within}
use Rattle.session_laws.specs.Known.{first_asked}

-- ---- what an editor did with its mirror

-- the bytes that it fed
abbrev pub fed_in : List Input → List ℕ
fed_in [] = []
fed_in (Sent request ∷ inputs) = fed_in inputs
fed_in (Fed piece ∷ inputs) = piece ++ fed_in inputs

-- the requests that it told
abbrev pub sent_in : List Input → List ARequest
sent_in [] = []
sent_in (Sent request ∷ inputs) = request ∷ sent_in inputs
sent_in (Fed piece ∷ inputs) = sent_in inputs

-- the first of these requests that has this number
abbrev pub first_told : List ARequest → ℕ → Option ARequest
first_told [] number = None
first_told (r ∷ requests) number = if r.seq == number then Some r else first_told requests number

-- the request that a success answers was told, and is the one that the adapter read
abbrev pub IsTold : List ARequest → List Ask → Message → Type 0
IsTold told heard (IsResponse r) = is_success r.outcome ≡ true → first_told told r.request_seq ≡ first_asked heard r.request_seq
IsTold told heard (IsEvent e) = ⊤

-- so it is of each message that has come whole
abbrev pub AreTold : Life → List Input → Type 0
AreTold life inputs = All (λ (m : Said). IsTold (sent_in inputs) life.heard m.message) (told_within (length (fed_in inputs)) life.said)

-- An editor of a connection did this with its mirror: at each time the requests of all that has come whole were told.
pub record IsEditor (life : Life) (inputs : List Input) : Type 0 where
  pub bytes : IsPrefixOf (fed_in inputs) (bytes_of life)
  pub in_time : (before rest : List Input) → before ++ rest ≡ inputs → AreTold life before

-- ---- one that told all its requests first

-- the requests that could be read
abbrev pub requests_in : List Ask → List ARequest
requests_in [] = []
requests_in (Request r ∷ asks) = r ∷ requests_in asks
requests_in (Bad seq command refusal ∷ asks) = requests_in asks

-- it told all requests of the connection, and then fed its first bytes, this many of them
abbrev pub told_first : Life → ℕ → List Input
told_first life count = map Sent (requests_in life.heard) ++ Fed (take count (bytes_of life)) ∷ []

-- ---- examples

-- two requests, told in turn with two pieces
in_turn : ARequest → ARequest → List Input
in_turn one other = Sent one ∷ Fed (codes "Con") ∷ Sent other ∷ Fed (codes "tent") ∷ []

what_it_fed : (one other : ARequest) → fed_in (in_turn one other) ≡ codes "Content"
unfolding in_turn
what_it_fed one other = refl

what_it_told : (one other : ARequest) → sent_in (in_turn one other) ≡ one ∷ other ∷ []
unfolding in_turn
what_it_told one other = refl
