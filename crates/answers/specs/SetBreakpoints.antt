-- What `setBreakpoints` answers (DAP specification, `SetBreakpointsRequest`).
--
-- The breakpoints are those of one source. Where that is not the program's, none is set and no list is replaced. A
-- breakpoint is set at the first line with code, from the asked line on, and at the first instruction there. Lines
-- count from 0 or 1, as the editor said; the image counts them from 1.
--
-- A breakpoint with a text to write (`logMessage`) is a logpoint. The text stays as it is, spaces and braces too; an
-- empty one counts as absent. One of more than 1,024 bytes is too much to ask for, whatever the source is.
use Rattle.std.specs.Prelude.{◌≡◌, ℕ, nat_lt, Bool, false, ◌||◌, codes, refl}
use Rattle.std.specs.Prelude.{if◌then◌else◌, List, length, Option, Some, None}
use Rattle.std.specs.Prelude.{Result, Ok, Err, bytes_eq}
use Rattle.std.specs.List.{list_any}
use Rattle.image.specs.Lines.{Table, bind}
use Rattle.protocol.specs.declared.set_breakpoints.SetBreakpointsArguments.{SetBreakpointsArguments}
use Rattle.protocol.specs.declared.set_breakpoints.SourceBreakpoint.{SourceBreakpoint}
use Rattle.protocol.specs.declared.refusal.Refusal.TheVariants.{TooMuch}
use Rattle.message_parts.specs.declared.set_breakpoints.SourceBreakpoint as replied
use Rattle.message_parts.specs.declared.set_breakpoints.SourceBreakpoint.TheVariants.{Verified, Unverified}
use Rattle.replies.specs.declared.response.ResponseBody.TheVariants.{SetBreakpoints}
use Rattle.breakpoints.specs.Stops.{Wanted}
use Rattle.answers.specs.Breakpoints.{Answer, entries_of, list_of, message_of}
use Rattle.answers.specs.Conditions.{Conditions, conditions_of}
use Rattle.answers.specs.EditorLines.{line_in_editor, line_in_image}
use Rattle.answers.specs.Spaces.{unless_empty}
use Rattle.answers.specs.declared.problem.Problem.{Problem}
use Rattle.answers.specs.declared.problem.Problem.TheVariants.{UnknownSource, NoCode}
use Rattle.answers.specs.declared.view.View.{View}

-- a breakpoint that can be set: the line in the image, its first address, its conditions, and what a logpoint writes
pub record Place : Type 0 where
  pub line : ℕ
  pub address : ℕ
  pub conditions : Conditions
  pub log : Option (List ℕ)

abbrev pub placed : Result Conditions Problem → Option (ℕ × ℕ) → Option (List ℕ) → Result Place Problem
placed (Err problem) found log = Err problem
placed (Ok conditions) None log = Err NoCode
placed (Ok conditions) (Some found) log =
    Ok (record { line = found.0; address = found.1; conditions = conditions; log = log })

-- what a logpoint writes: None where it is absent or empty, and then the breakpoint is no logpoint
abbrev pub written : Option (List ℕ) → Option (List ℕ)
written None = None
written (Some text) = unless_empty text

a_text_stays : written (Some (codes " {a0} ")) ≡ Some (codes " {a0} ")
a_text_stays = refl

an_empty_text_is_absent : written (Some (codes "")) ≡ None
an_empty_text_is_absent = refl

-- whether a breakpoint can be set, and where; `own`: the source is the program's
abbrev pub judged : Bool → Table → ℕ → SourceBreakpoint → Result Place Problem
judged own table base asked =
    if own
    then placed (conditions_of asked.condition asked.hit_condition) (bind table (line_in_image base asked.line))
    (written asked.log_message)
    else Err UnknownSource

-- what is said of it; `id` is its number where it is set
abbrev pub verified : ℕ → ℕ → Place → replied.SourceBreakpoint
verified base id place = Verified id place.address (line_in_editor base place.line)

abbrev pub unverified : ℕ → Problem → replied.SourceBreakpoint
unverified line problem = Unverified line (message_of problem)

abbrev pub entry : ℕ → ℕ → SourceBreakpoint → Result Place Problem → replied.SourceBreakpoint
entry base id asked (Ok place) = verified base id place
entry base id asked (Err problem) = unverified asked.line problem

abbrev pub wanted : ℕ → Place → Wanted
wanted id place =
    record {
      id = id;
      address = place.address;
      condition = place.conditions.condition;
      hit = place.conditions.hit;
      log = place.log;
    }

-- whether a source is the program's
abbrev pub is_own : List ℕ → Option (List ℕ) → Bool
is_own path None = false
is_own path (Some asked) = bytes_eq asked path

abbrev pub of_source : Bool → Table → View → ℕ → List SourceBreakpoint → Answer
of_source own table view next asked = record {
  result = Ok (SetBreakpoints (record {
    breakpoints = entries_of (judged own table view.line_base) (entry view.line_base) next asked;
  }));
  list = if own then Some (list_of (judged own table view.line_base) wanted next asked) else None;
}

-- whether a text is longer than a logpoint may write
abbrev pub is_long : Option (List ℕ) → Bool
is_long None = false
is_long (Some text) = nat_lt 1024 (length text)

-- whether too much is asked for: more than 1,024 breakpoints, or a text of more than 1,024 bytes
abbrev pub is_too_much : List SourceBreakpoint → Bool
is_too_much asked = nat_lt 1024 (length asked) || list_any (λ one. is_long one.log_message) asked

-- the answer
abbrev pub set_breakpoints : Table → View → ℕ → SetBreakpointsArguments → Answer
set_breakpoints table view next arguments =
    if is_too_much arguments.breakpoints then record { result = Err TooMuch; list = None }
    else of_source (is_own view.path arguments.source.path) table view next arguments.breakpoints
