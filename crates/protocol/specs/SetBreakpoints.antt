-- The request `setBreakpoints` (`SetBreakpointsRequest`): what its arguments mean.
--
-- The editor says where the source is, and which breakpoints it is to have: their lines, and three texts
-- for each: two conditions, which are read later, and what a logpoint writes. Where it gives no list of breakpoints, it may give their lines alone,
-- as older editors do. Where both are there, `lines` is not looked at, and where neither is, the source
-- has no breakpoints. A line is not negative.
use Rattle.std.specs.Prelude.{◌≡◌, ℕ, List, [], ◌∷◌, Option, Some, None, map, unwrap_or, codes, refl}
use Rattle.serde_json.specs.Data.{Data, number, string, unsigned, array, object, no_items, item}
use Rattle.serde_json.specs.Data.{Members, no_members, member}
use Rattle.serde_json.specs.Find.{as_object, as_str}
use Rattle.protocol.specs.Properties.{◌>>=◌, property, natural}
use Rattle.protocol.specs.Arguments.{required, optional, list}
use Rattle.protocol.specs.declared.set_breakpoints.Source.{Source}
use Rattle.protocol.specs.declared.set_breakpoints.SourceBreakpoint.{SourceBreakpoint}
use Rattle.protocol.specs.declared.set_breakpoints.SetBreakpointsArguments.{SetBreakpointsArguments}
use Rattle.protocol.specs.declared.set_breakpoints.TheConstants.{NAME, SOURCE, PATH, LINES, LINE, LOG_MESSAGE}
use Rattle.protocol.specs.declared.members.TheConstants.{BREAKPOINTS, CONDITION, HIT_CONDITION}
use Rattle.protocol.specs.declared.command.Command.TheVariants as command
use Rattle.protocol.specs.Rows.{Row, row}

-- a source
abbrev pub source_of : Data → Option Source
source_of value = do
  members ← as_object value
  path ← optional as_str (property PATH.now members)
  Some (record { path = path })

-- a breakpoint; its line has to be there
abbrev pub source_breakpoint : Data → Option SourceBreakpoint
source_breakpoint value = do
  members ← as_object value
  line ← required natural (property LINE.now members)
  condition ← optional as_str (property CONDITION.now members)
  hits ← optional as_str (property HIT_CONDITION.now members)
  log ← optional as_str (property LOG_MESSAGE.now members)
  Some (record { line = line; condition = condition; hit_condition = hits; log_message = log })

-- a breakpoint without conditions and log message
abbrev pub at_line : ℕ → SourceBreakpoint
at_line line = record { line = line; condition = None; hit_condition = None; log_message = None }

-- the breakpoints by their lines, where there is no list of breakpoints
abbrev pub by_lines : Members → Option (List SourceBreakpoint)
by_lines members = do
  lines ← optional (list natural) (property LINES.now members)
  Some (map at_line (unwrap_or lines []))

-- the list, or what the lines say where there is none
abbrev pub or_by_lines : Option (List SourceBreakpoint) → Members → Option (List SourceBreakpoint)
or_by_lines (Some breakpoints) _ = Some breakpoints
or_by_lines None members = by_lines members

-- the breakpoints
abbrev pub asked : Members → Option (List SourceBreakpoint)
asked members = do
  breakpoints ← optional (list source_breakpoint) (property BREAKPOINTS.now members)
  or_by_lines breakpoints members

-- the arguments; None where one is of another type; a source that is absent has no path
abbrev pub set_breakpoints_arguments : Members → Option SetBreakpointsArguments
set_breakpoints_arguments members = do
  source ← optional source_of (property SOURCE.now members)
  breakpoints ← asked members
  Some (record { source = unwrap_or source (record { path = None }); breakpoints = breakpoints })

-- the request
abbrev pub set_breakpoints_request : Row
set_breakpoints_request = row NAME.now set_breakpoints_arguments (λ a. command.SetBreakpoints a)

no_breakpoints : set_breakpoints_arguments no_members
    ≡ Some (record { source = record { path = None }; breakpoints = [] })
no_breakpoints = refl

lines_alone : set_breakpoints_arguments
    (member (codes "lines") (array (item (number (unsigned 7)) no_items)) no_members)
    ≡ Some (record { source = record { path = None }; breakpoints = at_line 7 ∷ [] })
lines_alone = refl

lines_are_not_looked_at : set_breakpoints_arguments
    (member (codes "breakpoints") (array no_items)
    (member (codes "lines") (string (codes "7")) no_members))
    ≡ Some (record { source = record { path = None }; breakpoints = [] })
lines_are_not_looked_at = refl

a_line_has_to_be_there : source_breakpoint
    (object (member (codes "condition") (string (codes "a0")) no_members))
    ≡ None
a_line_has_to_be_there = refl

with_conditions : source_breakpoint
    (object (member (codes "condition") (string (codes "a0"))
    (member (codes "hitCondition") (string (codes "3"))
    (member (codes "line") (number (unsigned 7)) no_members))))
    ≡ Some (record {
      line = 7;
      condition = Some (codes "a0");
      hit_condition = Some (codes "3");
      log_message = None;
    })
with_conditions = refl

with_a_log_message : source_breakpoint
    (object (member (codes "line") (number (unsigned 7))
    (member (codes "logMessage") (string (codes "here")) no_members)))
    ≡ Some (record { line = 7; condition = None; hit_condition = None; log_message = Some (codes "here") })
with_a_log_message = refl

at_its_path : set_breakpoints_arguments
    (member (codes "source") (object (member (codes "path") (string (codes "a.s")) no_members)) no_members)
    ≡ Some (record { source = record { path = Some (codes "a.s") }; breakpoints = [] })
at_its_path = refl
