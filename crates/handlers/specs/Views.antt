-- What an answer is told of the source of the program, and of how the editor counts (DAP specification,
-- `InitializeRequestArguments.linesStartAt1`, `columnsStartAt1`).
use Rattle.answers.specs.declared.view.View.{View}
use Rattle.debuggee.specs.Programs.{Program}
use Rattle.handlers.specs.declared.terms.Terms.{Terms}
use Rattle.handlers.specs.Phases.{base_of}

-- the source, and how the editor counts
abbrev pub view_of : Terms → Program → View
view_of terms p = record {
  path = p.path;
  line_base = base_of terms.lines_start_at1;
  column_base = base_of terms.columns_start_at1;
}
