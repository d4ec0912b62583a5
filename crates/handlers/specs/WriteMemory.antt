-- `writeMemory`: bytes of memory are written, before they are answered for (DAP specification, `WriteMemoryRequest`).
use Rattle.std.specs.Prelude.{ℕ, List, take, Option, Some, None, Result, Ok, Err}
use Rattle.answers.specs.WriteMemory.{write_memory}
use Rattle.answers.specs.declared.write_memory.Writing.{Writing}
use Rattle.debuggee.specs.Programs.{Program, written}
use Rattle.protocol.specs.declared.refusal.Refusal.{Refusal}
use Rattle.protocol.specs.declared.write_memory.WriteMemoryArguments.{WriteMemoryArguments}
use Rattle.replies.specs.declared.response.ResponseBody.TheVariants as body
use Rattle.handlers.specs.declared.terms.Terms.{Terms}
use Rattle.handlers.specs.declared.demand.Demand.{Demand}
use Rattle.handlers.specs.declared.phase.Phases.TheVariants.{Active}
use Rattle.handlers.specs.Demands.{asks_stopped, taken_in}
use Rattle.handlers.specs.Given.{Answering, Given}
use Rattle.handlers.specs.Successes.{agreeing, changing, refusing}

-- in which phases it is taken, and what it asks of the program
abbrev pub demand : Demand
demand = taken_in Active asks_stopped

-- by what is answered: the first of the bytes, as many as are to be written
abbrev pub writes_by : Given → Terms → List ℕ → Result Writing Refusal → Answering
writes_by given terms bytes (Ok writing) =
    changing given terms (written writing.address (take writing.count bytes)) writing.body
writes_by given terms bytes (Err refusal) = refusing given terms refusal None

abbrev pub writes_on : Option Program → Given → Terms → WriteMemoryArguments → Answering
writes_on None given terms arguments = agreeing given terms body.Empty
writes_on (Some p) given terms arguments =
    writes_by given terms arguments.bytes (write_memory arguments p.machine.memory)

-- the answer, and what it changes
abbrev pub success : Given → Terms → WriteMemoryArguments → Answering
success given terms arguments = writes_on given.debuggee.program given terms arguments
