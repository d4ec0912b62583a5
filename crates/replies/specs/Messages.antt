-- What the adapter sends, as JSON and as text.
--
-- A message of the adapter (DAP specification, `ProtocolMessage`) is a response to a request, or an event. Each has a
-- number, which is no part of the message itself: the first that is sent on a connection has the number 1, and each
-- next one is 1 greater. The text is the compact one (RFC 8259 without insignificant whitespace), so a message has one
-- text.
use Rattle.std.specs.Prelude.{◌≡◌, ℕ, ◌^◌, ◌≤◌, ◌<◌, pos, neg_ℤ, List, [], ◌∷◌, ◌++◌, Some, None, codes, refl, ⊤}
use Rattle.std.specs.Fmt.{digits}
use Rattle.std.specs.Str.{chars, is_utf8}
use Rattle.serde_json.specs.Data.{Data}
use Rattle.serde_json.specs.Written.{compact_text}
use Rattle.serde_json.proofs.OnLiterals.{serde_json_on_literals}
use Rattle.message_parts.specs.declared.output.Category.TheVariants.{Console, Stdout}
use Rattle.message_parts.specs.declared.stopped.Reason.TheVariants.{InstructionBreakpoint, Exception}
use Rattle.protocol.specs.declared.refusal.Refusal.TheVariants.{WrongPhase}
use Rattle.replies.specs.declared.response.Outcome.TheVariants.{Done, Refused}
use Rattle.replies.specs.declared.response.ResponseBody.TheVariants.{Threads, Empty}
use Rattle.replies.specs.declared.message.Message.{Message}
use Rattle.replies.specs.declared.message.Message.TheVariants.{Response, Event}
use Rattle.replies.specs.declared.event.Event.TheVariants.{Stopped, Output, Exited, Terminated}
use Rattle.replies.specs.Responses.{response_data, IsProperResponse}
use Rattle.replies.specs.Events.{event_data, IsProperEvent}

-- a message with this number, as a JSON value
abbrev pub message_data : ℕ → Message → Data
message_data seq (Response response) = response_data seq response
message_data seq (Event event) = event_data seq event

-- a message with this number, as text
abbrev pub text_of : ℕ → Message → List ℕ
text_of seq message = compact_text (message_data seq message)

-- the message is one that the adapter may send
abbrev pub IsProper : Message → Type 0
IsProper (Response response) = IsProperResponse response
IsProper (Event event) = IsProperEvent event

-- the number of a message, from 1 to 2,147,483,647
abbrev pub IsNumber : ℕ → Type 0
IsNumber seq = (1 ≤ seq) × (seq < 2 ^ 31)

-- ---- examples

-- what an example unfolds so that the checker computes JSON texts that are literals
unfoldable pub json_on_literals : ⊤
unfolding serde_json_on_literals digits is_utf8 chars
json_on_literals = tt

-- the answer to `disconnect`, as the third message, to the third request
example-acknowledgement :
    text_of 3 (Response (record { request_seq = 3; command = codes "disconnect"; outcome = Done Empty }))
    ≡ codes "{\"command\":\"disconnect\",\"request_seq\":3,\"seq\":3,\"success\":true,\"type\":\"response\"}"
unfolding json_on_literals
example-acknowledgement = refl

-- the threads, as the second message, to the second request
example-threads : text_of 2 (Response (record { request_seq = 2; command = codes "threads"; outcome = Done Threads }))
    ≡ codes "{\"body\":{\"threads\":[{\"id\":1,\"name\":\"hart 0\"}]},\"command\":\"threads\","
    ++ codes "\"request_seq\":2,\"seq\":2,\"success\":true,\"type\":\"response\"}"
unfolding json_on_literals
example-threads = refl

-- the answer to a `threads` that comes before `initialize`
example-refusal :
    text_of 1 (Response (record { request_seq = 1; command = codes "threads"; outcome = Refused WrongPhase None }))
    ≡ codes "{\"body\":{\"error\":{\"format\":\"wrongPhase\",\"id\":3}},\"command\":\"threads\","
    ++ codes "\"message\":\"wrongPhase\",\"request_seq\":1,\"seq\":1,\"success\":false,\"type\":\"response\"}"
unfolding json_on_literals
example-refusal = refl

-- the end of the program, as the eighth message
example-terminated : text_of 8 (Event Terminated) ≡ codes "{\"event\":\"terminated\",\"seq\":8,\"type\":\"event\"}"
unfolding json_on_literals
example-terminated = refl

-- what the program printed
example-output : text_of 5 (Event (Output (record { category = Stdout; output = codes "7\n" })))
    ≡ codes "{\"body\":{\"category\":\"stdout\",\"output\":\"7\\n\"},\"event\":\"output\",\"seq\":5,\"type\":\"event\"}"
unfolding json_on_literals
example-output = refl

-- what a logpoint writes
example-log : text_of 7 (Event (Output (record { category = Console; output = codes "here\n" })))
    ≡ codes "{\"body\":{\"category\":\"console\",\"output\":\"here\\n\"},\"event\":\"output\",\"seq\":7,\"type\":\"event\"}"
unfolding json_on_literals
example-log = refl

-- a stop at the first breakpoint
example-breakpoint :
    text_of 5 (Event (Stopped (record { hit_breakpoint_ids = 1 ∷ []; reason = InstructionBreakpoint; text = None })))
    ≡ codes "{\"body\":{\"allThreadsStopped\":true,\"hitBreakpointIds\":[1],\"reason\":\"instruction breakpoint\","
    ++ codes "\"threadId\":1},\"event\":\"stopped\",\"seq\":5,\"type\":\"event\"}"
unfolding json_on_literals
example-breakpoint = refl

-- a stop that no breakpoint made
example-exception :
    text_of 5
    (Event (Stopped (record { hit_breakpoint_ids = []; reason = Exception; text = Some (codes "instruction limit") })))
    ≡ codes "{\"body\":{\"allThreadsStopped\":true,\"reason\":\"exception\",\"text\":\"instruction limit\","
    ++ codes "\"threadId\":1},\"event\":\"stopped\",\"seq\":5,\"type\":\"event\"}"
unfolding json_on_literals
example-exception = refl

-- an exit code below 0
example-exited : text_of 7 (Event (Exited (record { exit_code = neg_ℤ (pos 1) })))
    ≡ codes "{\"body\":{\"exitCode\":-1},\"event\":\"exited\",\"seq\":7,\"type\":\"event\"}"
unfolding json_on_literals
example-exited = refl
