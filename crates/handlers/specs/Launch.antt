-- `launch`: a program is assembled from the file that it names, and loaded (DAP specification, `LaunchRequest`,
-- `InitializedEvent`).
--
-- It takes the place of the program that was debugged before. It stands still at its entry until the editor has said
-- all: its answer is followed by the event that asks for the editor's settings.
use Rattle.std.specs.Prelude.{ℕ, true, false, List, [], ◌∷◌, ◌++◌, Option, Some, None, codes, decimal}
use Rattle.assembler.specs.Assembled.{assembled}
use Rattle.assembler.specs.Errors.{kind_name}
use Rattle.assembler.specs.Placed.{error_of}
use Rattle.assembler.specs.declared.error.AsmError.{AsmError}
use Rattle.debuggee.specs.Programs.{just_loaded}
use Rattle.protocol.specs.declared.launch.LaunchArguments.{LaunchArguments}
use Rattle.protocol.specs.declared.refusal.Refusal.TheVariants.{AssemblyFailed, FileUnreadable}
use Rattle.replies.specs.declared.event.Event.TheVariants as event
use Rattle.replies.specs.declared.response.Outcome.TheVariants.{Done}
use Rattle.replies.specs.declared.response.ResponseBody.TheVariants as body
use Rattle.handlers.specs.declared.phase.Phase.TheVariants.{Configuring}
use Rattle.handlers.specs.declared.terms.Terms.{Terms}
use Rattle.handlers.specs.declared.demand.Demand.{Demand}
use Rattle.handlers.specs.declared.phase.Phases.TheVariants.{Initialized}
use Rattle.handlers.specs.Demands.{asks_nothing, taken_in}
use Rattle.handlers.specs.Given.{Answering, Given}
use Rattle.handlers.specs.Successes.{refusing}

-- in which phases it is taken, and what it asks of the program
abbrev pub demand : Demand
demand = taken_in Initialized asks_nothing

-- what is wrong with a file, as the editor is told
abbrev pub error_text : AsmError → List ℕ
error_text error = codes "line " ++ decimal error.line ++ codes ": " ++ kind_name error.kind

-- the program is loaded
abbrev pub loads : Given → Terms → LaunchArguments → List ℕ → Answering
loads given terms arguments text = record {
  debuggee = record given.debuggee {
    program = Some (just_loaded (assembled text) arguments.program arguments.stop_on_entry given.size);
  };
  references = None;
  terms = record terms { phase = Configuring; launched = true };
  outcome = Done body.Empty;
  events = event.Initialized ∷ [];
  closes = false;
}

-- the answer, where the file was read, by what is wrong with it
abbrev pub assembles : Given → Terms → LaunchArguments → List ℕ → Option AsmError → Answering
assembles given terms arguments text None = loads given terms arguments text
assembles given terms arguments text (Some error) = refusing given terms AssemblyFailed (Some (error_text error))

-- the answer, by its file
abbrev pub success : Given → Terms → Option (List ℕ) → LaunchArguments → Answering
success given terms None arguments = refusing given terms FileUnreadable None
success given terms (Some text) arguments = assembles given terms arguments text (error_of text given.size)
