-- What a session is now, and what can be done to it.
--
-- What an event answers depends on what the session is now and on how many bytes wait, and on nothing that is past.
-- What it does is a list of acts, one after the other. Each act can come in each state: one that has nothing to act on,
-- as an answer where no request waits, does nothing.
use Rattle.std.specs.Prelude.{ℕ, ◌+◌, ◌==◌, Bool, true, false, if◌then◌else◌, List, [], Option, Some, None, is_some}
use Rattle.framing.specs.Reading.{Tail, Reading}
use Rattle.framing.specs.Reading.Tail.{Partial}
use Rattle.framing.specs.Streams.{fault_of, reading_after}
use Rattle.framing.specs.declared.error.FrameError.{FrameError}
use Rattle.protocol.specs.declared.request.MessageError.{MessageError}
use Rattle.debuggee.specs.Programs.{Debuggee}
use Rattle.replies.specs.declared.event.Event.{Event}
use Rattle.replies.specs.declared.response.Outcome.{Outcome}
use Rattle.session.specs.declared.TheConstants.{BODY_LIMIT}
use Rattle.session.specs.declared.event.LinkFault.{LinkFault}
use Rattle.session.specs.declared.event.LinkFault.TheVariants.{Frame, Message}
use Rattle.session.specs.declared.limits.Limits.{Limits}
use Rattle.session.specs.declared.link.Link.{Link}
use Rattle.queues.specs.declared.pending.Pending.{Pending}
use Rattle.handlers.specs.Given.{Given}
use Rattle.handlers.specs.declared.terms.Terms.{Terms}
use Rattle.handlers.specs.Phases.{first_terms}
use Rattle.session.specs.References.{referred}
use Rattle.variables.specs.Laws.{Call}
use Rattle.variables.specs.Numbers.{Numbers, at_next_stop}
use Rattle.queues.specs.Arrivals.{Arrivals, no_arrivals, all_joined, asks_of, message_fault_of}

-- What a session is now, as far as no past is needed to say it: its limits, and how many bytes of memory a machine gets;
-- how many connections were made; the present one, if there is one; the requests that came on it and wait for their
-- answers; what has arrived of the next frame; what closed the present connection or the last one, if something did; the
-- program that is debugged; and the numbers of the references that are good.
pub record Now : Type 0 where
  pub limits : Limits
  pub size : ℕ
  pub connections : ℕ
  pub link : Option Link
  pub arrivals : Arrivals
  pub tail : Tail
  pub fault : Option LinkFault
  pub debuggee : Debuggee
  pub numbers : Numbers

-- what is given of it to an answer
abbrev pub given_of : Now → Given
given_of now =
    record { size = now.size; last_ref = now.limits.last_ref; debuggee = now.debuggee; numbers = now.numbers }

-- all that an event depends on: also how many bytes wait to be sent
pub record Seen : Type 0 where
  pub now : Now
  pub waits : ℕ

-- what an event does, one thing after the other
pub data Act : Type 0 where
  -- a connection is made, and a connection ends
  Open : Act
  Close : Act
  -- a piece is taken: the requests in it join those that wait
  Accept : List ℕ → Act
  -- this is agreed on the connection
  Agree : Terms → Act
  -- the program that is debugged is now this
  Become : Debuggee → Act
  -- references are issued on the connection, or the stop ends for them, or nothing becomes of them
  Refer : Option Call → Act
  -- the first request that waits is answered
  Reply : Outcome → Act
  -- the editor is told something that it did not ask
  Tell : Event → Act
  -- the connection takes nothing more
  HangUp : Act
  -- the first of the waiting bytes were sent
  Take : ℕ → Act

-- whether an act needs memory: taking a piece and queueing a message do, and nothing else
abbrev pub grows : Act → Bool
grows Open = false
grows Close = false
grows (Accept piece) = true
grows (Agree terms) = false
grows (Become debuggee) = false
grows (Refer call) = false
grows (Reply outcome) = true
grows (Tell event) = true
grows HangUp = false
grows (Take n) = false

-- ---- what acts make of what a session is now

-- the connection is made
abbrev pub opened : Now → Now
opened now = record now {
  connections = now.connections + 1;
  link = Some (record { seq = 0; terms = first_terms; is_closing = false });
  arrivals = no_arrivals;
  tail = Partial [];
  fault = None;
}

-- it has ended, and what was issued on it is stale
abbrev pub closed : Now → Now
closed now = record now {
  link = None;
  arrivals = no_arrivals;
  tail = Partial [];
  numbers = at_next_stop now.numbers;
}

-- references are issued, or the stop ends for them
abbrev pub refers : Now → Option Call → Now
refers now call = record now { numbers = referred call now.numbers }

-- this is agreed on it
abbrev pub agreed : Now → Link → Terms → Now
agreed now link terms = record now { link = Some (record link { terms = terms }) }

-- it takes nothing more
abbrev pub hung : Now → Link → Now
hung now link = record now { link = Some (record link { is_closing = true }) }

-- A message was queued on it, and these requests wait then. The last number closes it, and they are dropped.
abbrev pub numbered : Now → Link → List Pending → Now
numbered now link rest = let is_last = link.seq + 1 == now.limits.last_seq in record now {
  link = Some (record link { seq = link.seq + 1; is_closing = if is_last then true else link.is_closing });
  arrivals = record now.arrivals { pending = if is_last then [] else rest };
}

-- ---- a piece

-- the first fault of a stream, by that of a body and that of the tail
abbrev pub fault_or : Option MessageError → Option FrameError → Option LinkFault
fault_or (Some fault) frame_fault = Some (Message fault)
fault_or None (Some fault) = Some (Frame fault)
fault_or None None = None

-- the fault of a stream in this reading: that of its first body that is no message, or else that of its tail
abbrev pub fault_of_reading : Reading → Option LinkFault
fault_of_reading r = fault_or (message_fault_of r.bodies) (fault_of r.tail)

-- after a fault nothing is kept of the stream
abbrev pub tail_kept : Option LinkFault → Tail → Tail
tail_kept None tail = tail
tail_kept (Some fault) tail = Partial []

-- what a piece is read as, after what has arrived of the next frame
abbrev pub read_on : Now → List ℕ → Reading
read_on now piece = reading_after BODY_LIMIT now.tail piece

-- the requests of a reading join, and its tail is kept
abbrev pub taken_in : Now → Reading → Now
taken_in now r =
    record now { arrivals = all_joined now.arrivals (asks_of r.bodies); tail = tail_kept (fault_of_reading r) r.tail }

-- the requests of a reading join, and its fault closes the connection
abbrev pub accepted : Now → Reading → Link → Now
accepted now r link = record (taken_in now r) {
  link = Some (record link { is_closing = is_some (fault_of_reading r) });
  fault = fault_of_reading r;
}
