-- An example: a whole session, from the bytes that an editor sends to those that it gets, computed by the checker.
--
-- The editor connects and asks for the threads, as its request 1, then ends the session, as its request 2. It did not
-- send `initialize`, so the first is refused as `wrongPhase`. The second succeeds. The stream is cut inside the second
-- request. Once all bytes of the two answers were sent, all is said.
use Rattle.std.specs.Prelude.{◌≡◌, ℕ, true, List, [], ◌∷◌, ◌++◌, drop, None, codes, refl}
use Rattle.framing.specs.Headers.{end_of_line}
use Rattle.framing.specs.Reading.{reading_of, start_of}
use Rattle.protocol.specs.Json.{json_of}
use Rattle.protocol.specs.Reading.{incoming_of}
use Rattle.replies.specs.Messages.{json_on_literals}
use Rattle.session.specs.declared.event.Event.{Event}
use Rattle.session.specs.declared.event.Event.TheVariants.{Connect, Recv, Turn, Sent}
use Rattle.session.specs.Limits.{greatest_limits}
use Rattle.session.specs.Outcomes.{is_finished}
use Rattle.session.specs.Sessions.{After, Beginning, histories}
use Rattle.queues.specs.Writing.{frame_of}

-- the header part of a frame, by the digits of its length
abbrev header : List ℕ → List ℕ
header digits = codes "Content-Length: " ++ digits ++ end_of_line ++ end_of_line

-- what the session begins with: one mebibyte for a machine, and no program
abbrev first : Beginning
first = record { limits = greatest_limits; size = 1048576; program = None; numbers = refl; memory = refl; image = tt }

-- what the editor sends first: `threads`, and the beginning of `disconnect`
abbrev first_piece : List ℕ
first_piece = header (codes "46") ++ codes "{\"seq\":1,\"type\":\"request\",\"command\":\"threads\"}"
    ++ header (codes "49") ++ codes "{\"seq\":2,\"type\""

-- the rest of `disconnect`
abbrev second_piece : List ℕ
second_piece = codes ":\"request\",\"command\":\"disconnect\"}"

-- the answer to `threads`
abbrev refusal : List ℕ
refusal = header (codes "150")
    ++ codes "{\"body\":{\"error\":{\"format\":\"wrongPhase\",\"id\":3}},\"command\":\"threads\","
    ++ codes "\"message\":\"wrongPhase\",\"request_seq\":1,\"seq\":1,\"success\":false,\"type\":\"response\"}"

-- the answer to `disconnect`
abbrev success : List ℕ
success = header (codes "81")
    ++ codes "{\"command\":\"disconnect\",\"request_seq\":2,\"seq\":2,\"success\":true,\"type\":\"response\"}"

-- `threads` came whole, and was answered
abbrev one_answered : List Event
one_answered = Connect ∷ Recv first_piece ∷ Turn None ∷ []

the_refusal_waits : (After first one_answered).waiting ≡ refusal
unfolding json_on_literals reading_of start_of json_of incoming_of frame_of
the_refusal_waits = refl

-- the rest of `disconnect` came too, and both were answered
abbrev both_answered : List Event
both_answered = one_answered ++ Recv second_piece ∷ Turn None ∷ []

both_answers_wait : (After first both_answered).waiting ≡ refusal ++ success
unfolding json_on_literals reading_of start_of json_of incoming_of frame_of
both_answers_wait = refl

-- 180 bytes were sent
the_rest_waits : (After first (both_answered ++ Sent 180 ∷ [])).waiting ≡ drop 180 (refusal ++ success)
unfolding json_on_literals reading_of start_of json_of incoming_of frame_of
the_rest_waits = refl

-- all 276 were
abbrev all_sent : List Event
all_sent = both_answered ++ Sent 180 ∷ Sent 96 ∷ []

all_is_said : is_finished (histories.see (After first all_sent)) ≡ true
unfolding json_on_literals reading_of start_of json_of incoming_of frame_of
all_is_said = refl
