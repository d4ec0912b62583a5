-- The requests that come have texts that are UTF-8, and no longer than a body may be.
use Rattle.session_laws.proofs.Messages.Common.{[], All, All-weaker, AllByRecursion, AreFrames, arith, Ask, asks_in, asks_of, Bad, BODY_LIMIT, Command, Faulty, IfSome_then, Incoming, incoming_of, Launch, length, List, map, MessageError, Now, Partial, read_on, reading_after, reading_is_right, Request, Result, SetBreakpoints, SourceBreakpoint, Tail, ℕ, ◌++◌, ◌∷◌, ◌≤◌}
use Rattle.text_laws.specs.Requests.{AsksWithin, MeansWithin, WritesWithin}
use Rattle.text_laws.proofs.Requests.{requests_have_texts}
use Rattle.session_laws.proofs.Messages.Programs.{IsShortText, SaysShort}

-- a breakpoint that writes such a text, if it is a logpoint
abbrev pub WritesShort : SourceBreakpoint → Type 0
WritesShort one = SaysShort one.log_message

-- a request with such texts; of one that could not be read, there is its name
abbrev pub IsShortRequest : Command → Type 0
IsShortRequest (Launch arguments) = IsShortText arguments.program
IsShortRequest (SetBreakpoints arguments) = All WritesShort arguments.breakpoints
IsShortRequest other = Unit {0}

abbrev pub IsShortAsk : Ask → Type 0
IsShortAsk (Request r) = IsShortRequest r.command
IsShortAsk (Bad seq command refusal) = IsShortText command

-- the bodies of frames have no more bytes than a body may have
frames_within : (limit : ℕ) (bytes : List ℕ) (bodies : List (List ℕ)) → AreFrames limit bytes bodies
    → AllByRecursion (λ body. length body ≤ limit) bodies
frames_within limit bytes [] h = tt
frames_within limit bytes (body ∷ bodies) h = (h.3.says.within, frames_within limit h.1 bodies h.4)

bodies_within : (limit : ℕ) (tail : Tail) (piece : List ℕ)
    → AllByRecursion (λ body. length body ≤ limit) (reading_after limit tail piece).bodies
bodies_within limit (Partial rest) piece =
    let framed = (reading_is_right limit (rest ++ piece)).framed in frames_within limit framed.prefix _ framed.frames
bodies_within limit (Faulty fault) piece = tt

short_request : (n : ℕ) (c : Command) → n ≤ 1048576 → AsksWithin n c → IsShortRequest c
short_request n (Launch arguments) few h = (h.0, omega (arith, h.1, few))
short_request n (SetBreakpoints arguments) few h =
    All-weaker (WritesWithin n) WritesShort
    (λ one within. IfSome_then one.log_message within (λ text t. (t.0, omega (arith, t.1, few)))) arguments.breakpoints h.1
short_request n other few h = tt

one_more : (n : ℕ) (means : Result Incoming MessageError) (rest : List (Result Incoming MessageError)) → n ≤ 1048576
    → MeansWithin n means → AllByRecursion IsShortAsk (asks_in rest) → AllByRecursion IsShortAsk (asks_in (means ∷ rest))
one_more n means rest few h others = grind (arith, short_request)

all_asks : (bodies : List (List ℕ)) → AllByRecursion (λ body. length body ≤ 1048576) bodies → AllByRecursion IsShortAsk (asks_of bodies)
all_asks [] few = tt
all_asks (body ∷ bodies) few =
    one_more (length body) (incoming_of body) (map incoming_of bodies) few.0 (requests_have_texts body) (all_asks bodies few.1)

pub asks_are_short : (now : Now) (piece : List ℕ) → AllByRecursion IsShortAsk (asks_of (read_on now piece).bodies)
asks_are_short now piece = all_asks (read_on now piece).bodies (bodies_within BODY_LIMIT now.tail piece)
