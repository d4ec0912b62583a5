-- Requests, as an editor writes them (DAP specification, `Request`).
--
-- A request is an object of its number, its name, and its arguments where it has any. Its text is the compact one (RFC 8259
-- without insignificant whitespace), so a request has one text.
use Rattle.std.specs.Prelude.{◌≡◌, ℕ, pos, nat_le, ◌&&◌, Bool, true, List, Option, Some, None, codes, refl, if◌then◌else◌}
use Rattle.std.specs.List.{list_all}
use Rattle.serde_json.specs.Data.{Data, Members, member, no_members, number, object, string, unsigned}
use Rattle.std.specs.Fmt.{digits}
use Rattle.std.specs.Str.{chars, is_utf8}
use Rattle.serde_json.specs.Written.{compact_text}
use Rattle.serde_json.proofs.OnLiterals.{serde_json_on_literals}
use Rattle.message_parts.specs.EncodedBytes.{are_bytes}
use Rattle.message_parts.specs.Forms.{is_in_if, is_signed_word, member_if}
use Rattle.protocol.specs.Commands.{name_of}
use Rattle.protocol.specs.declared.command.Command.{Command}
use Rattle.protocol.specs.declared.command.Command.TheVariants as command
use Rattle.requests.specs.Arguments.{has_arguments, members_of}

-- its arguments, if it has any
abbrev pub arguments_of : Command → Option Members
arguments_of c = if has_arguments c then Some (members_of c) else None

-- the members of the object
abbrev pub request_members : ℕ → Command → Members
request_members seq c =
    member_if (codes "arguments") (λ ms. object ms) (arguments_of c)
    (member (codes "command") (string (name_of c))
    (member (codes "seq") (number (unsigned seq))
    (member (codes "type") (string (codes "request")) no_members)))

-- a request with this number, as a JSON value
abbrev pub request_data : ℕ → Command → Data
request_data seq c = object (request_members seq c)

-- a request with this number, as text
abbrev pub request_text : ℕ → Command → List ℕ
request_text seq c = compact_text (request_data seq c)

-- ---- numbers in their ranges

-- a whole number from 0 to 2,147,483,647
abbrev pub is_natural : ℕ → Bool
is_natural n = nat_le n 2147483647

-- The numbers of a request are in the ranges that the adapter reads. Those that may be below 0 are in it in each request that a
-- program holds, and so is each byte.
abbrev pub is_in_range : Command → Bool
is_in_range (command.Cancel a) = is_in_if is_signed_word a.request_id
is_in_range (command.SetBreakpoints a) = list_all (λ b. is_natural b.line) a.breakpoints
is_in_range (command.SetInstructionBreakpoints a) = list_all (λ b. is_signed_word b.offset) a.breakpoints
is_in_range (command.Continue a) = is_signed_word a.thread_id
is_in_range (command.Next a) = is_signed_word a.thread_id
is_in_range (command.StepIn a) = is_signed_word a.thread_id
is_in_range (command.StepOut a) = is_signed_word a.thread_id
is_in_range (command.StepBack a) = is_signed_word a.thread_id
is_in_range (command.ReverseContinue a) = is_signed_word a.thread_id
is_in_range (command.Pause a) = is_signed_word a.thread_id
is_in_range (command.StackTrace a) = is_in_if is_natural a.levels && (is_natural a.start_frame && is_signed_word a.thread_id)
is_in_range (command.Scopes a) = is_signed_word a.frame_id
is_in_range (command.Variables a) = is_in_if is_natural a.count && (is_natural a.start && is_signed_word a.variables_reference)
is_in_range (command.SetVariable a) = is_signed_word a.variables_reference
is_in_range (command.Evaluate a) = is_in_if is_signed_word a.frame_id
is_in_range (command.Disassemble a) =
    is_natural a.instruction_count && (is_signed_word a.instruction_offset && is_signed_word a.offset)
is_in_range (command.ReadMemory a) = is_natural a.count && is_signed_word a.offset
is_in_range (command.WriteMemory a) = are_bytes a.bytes && is_signed_word a.offset
is_in_range _ = true

-- ---- examples

-- the threads are asked for, by the second request
example-threads : request_text 2 command.Threads ≡ codes "{\"command\":\"threads\",\"seq\":2,\"type\":\"request\"}"
unfolding serde_json_on_literals digits is_utf8 chars
example-threads = refl

-- the program runs on
example-continue : request_text 7 (command.Continue (record { thread_id = pos 1 }))
    ≡ codes "{\"arguments\":{\"threadId\":1},\"command\":\"continue\",\"seq\":7,\"type\":\"request\"}"
unfolding serde_json_on_literals digits is_utf8 chars
example-continue = refl

-- the value of `a0` is asked for, in no frame
example-evaluate : request_text 9 (command.Evaluate (record { expression = codes "a0"; frame_id = None }))
    ≡ codes "{\"arguments\":{\"expression\":\"a0\"},\"command\":\"evaluate\",\"seq\":9,\"type\":\"request\"}"
unfolding serde_json_on_literals digits is_utf8 chars
example-evaluate = refl
