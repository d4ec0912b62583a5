-- What the code makes on the way to an answer.
use Rattle.std.specs.Prelude.{◌≡◌, ℕ, ◌+◌, ◌==◌, min, if◌then◌else◌, ◌++◌, List, [], ◌∷◌, slice_index, Option, Some, None}
use Rattle.std.specs.Prelude.{Result, Ok, Err, option_map, map}
use Rattle.image.specs.Lines.{Table}
use Rattle.message_parts.specs.declared.stack_trace.StackFrame.{StackFrame}
use Rattle.breakpoints.specs.Nodes.{tree_of}
use Rattle.breakpoints.specs.Trees.{Tree}
use Rattle.breakpoints.specs.declared.node.Node.{Node}
use Rattle.breakpoints.specs.Stops.{Wanted, wanted_by}
use Rattle.answers.specs.Breakpoints.{followed_by, next_after}
use Rattle.answers.specs.StackTrace.{frame}
use Rattle.answers.specs.Conditions.{Conditions}
use Rattle.answers.specs.SetBreakpoints as source
use Rattle.answers.specs.SetInstructionBreakpoints as instruction
use Rattle.answers.specs.declared.draft.Draft.{Draft}
use Rattle.answers.specs.declared.problem.Problem.{Problem}
use Rattle.answers.specs.declared.set_breakpoints.Place as source_place
use Rattle.answers.specs.declared.set_instruction_breakpoints.Place as instruction_place
use Rattle.answers.specs.declared.conditions.Conditions as made
use Rattle.answers.specs.declared.view.View.{View}

-- a condition
abbrev pub condition_by : Result (Option Node) Problem → Result (Option Tree) Problem
condition_by (Ok condition) = Ok (option_map tree_of condition)
condition_by (Err problem) = Err problem

-- conditions
abbrev pub conditions_in : made.Conditions → Conditions
conditions_in conditions = record { condition = option_map tree_of conditions.condition; hit = conditions.hit }

abbrev pub conditions_by : Result made.Conditions Problem → Result Conditions Problem
conditions_by (Ok conditions) = Ok (conditions_in conditions)
conditions_by (Err problem) = Err problem

-- where a breakpoint can be set
abbrev pub source_place_in : source_place.Place → Option (List ℕ) → source.Place
source_place_in place log = record {
  line = place.line;
  address = place.address;
  conditions = conditions_in place.conditions;
  log = log;
}

abbrev pub source_place_by : Result source_place.Place Problem → Option (List ℕ) → Result source.Place Problem
source_place_by (Ok place) log = Ok (source_place_in place log)
source_place_by (Err problem) log = Err problem

abbrev pub instruction_place_in : instruction_place.Place → instruction.Place
instruction_place_in place = record { address = place.address; conditions = conditions_in place.conditions }

abbrev pub instruction_place_by : Result instruction_place.Place Problem → Result instruction.Place Problem
instruction_place_by (Ok place) = Ok (instruction_place_in place)
instruction_place_by (Err problem) = Err problem

-- the list so far
abbrev pub list_in : Draft → List Wanted
list_in draft = map wanted_by draft.list.items

-- a draft after a breakpoint that was looked at
pub record Takes {P : Type 0} (wanted : ℕ → P → Wanted) (judged : Result P Problem) (old new : Draft) : Type 0 where
  pub list : list_in new ≡ list_in old ++ followed_by wanted old.next_id judged []
  pub next : new.next_id ≡ next_after old.next_id judged

-- ---- part of a list, by the indices of its first element and of the one after its last

abbrev pub first_in : ℕ → ℕ → ℕ
first_in start length = min start length

abbrev pub end_in : ℕ → Option ℕ → ℕ → ℕ
end_in first None length = length
end_in first (Some count) length = if count == 0 then length else min length (first + count)

-- the frames from an index on, with these numbers
abbrev pub frames_from : Table → View → List ℕ → ℕ → List ℕ → List StackFrame
frames_from table view addresses index [] = []
frames_from table view addresses index (id ∷ ids) =
    frame table view id (slice_index addresses index) ∷ frames_from table view addresses (index + 1) ids
