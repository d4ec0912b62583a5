-- What `stackTrace` answers (DAP specification, `StackTraceRequest`, `StackFrame`, `Source`).
--
-- The first frame, of index 0, is where the program stands, so its address is the program counter. Under it are the calls
-- that are kept, the newest first: the frame of index k is at the address of the instruction that made the k-th newest call.
-- A request may ask for part of them. Each frame that is given has a number, and new ones go to these alone.
--
-- A frame is named as its address is: by the label, and how many bytes it is above that, or by the address itself where
-- there is no label. Its line is that of its address. Where that is in no line, it has no source, and its line and column
-- are 0.
use Rattle.std.specs.Prelude.{◌≡◌, ℕ, ◌==◌, not, if◌then◌else◌, List, ◌∷◌, ◌++◌, length, map, reverse, slice_index}
use Rattle.std.specs.Prelude.{Option, Some, None, Result, Ok, codes, refl}
use Rattle.std.specs.List.{range_with_len, take_while}
use Rattle.std.specs.Fmt.{decimal}
use Rattle.image.specs.Lines.{Table, label_at, line_of}
use Rattle.message_parts.specs.declared.stack_trace.Source.{Source}
use Rattle.message_parts.specs.declared.stack_trace.StackFrame.{StackFrame}
use Rattle.protocol.specs.declared.refusal.Refusal.{Refusal}
use Rattle.protocol.specs.declared.stack_trace.StackTraceArguments.{StackTraceArguments}
use Rattle.replies.specs.declared.response.ResponseBody.{ResponseBody}
use Rattle.replies.specs.declared.response.ResponseBody.TheVariants.{StackTrace}
use Rattle.rv32i.specs.Texts.{address_text}
use Rattle.stepping.specs.Ticks.{Debugged}
use Rattle.variables.specs.Numbers.{Numbers, with_targets}
use Rattle.variables.specs.declared.target.Target.{Target}
use Rattle.variables.specs.declared.target.Target.TheVariants.{Frame}
use Rattle.answers.specs.EditorLines.{line_in_editor}
use Rattle.answers.specs.Parts.{part}
use Rattle.answers.specs.Targets.{number_for}
use Rattle.answers.specs.declared.view.View.{View}

-- ---- which frames

-- the addresses of all frames, the innermost first
abbrev pub addresses : Debugged → List ℕ
addresses machine = machine.hart.pc ∷ machine.calls.calls

-- the indices of those that are given, of this many frames
abbrev pub indices : StackTraceArguments → ℕ → List ℕ
indices arguments count = part arguments.start_frame arguments.levels (range_with_len 0 count)

-- those that are given
abbrev pub frames_given : StackTraceArguments → Debugged → List Target
frames_given arguments machine = map (λ index. Frame index) (indices arguments (length (addresses machine)))

-- ---- what an address is called

abbrev pub above_label : List ℕ → ℕ → List ℕ
above_label label distance = if distance == 0 then label else label ++ codes "+" ++ decimal distance

abbrev pub name_by : ℕ → Option (List ℕ × ℕ) → List ℕ
name_by address None = address_text address
name_by address (Some found) = above_label found.0 found.1

-- the name that a frame at an address has
abbrev pub name_at : Table → ℕ → List ℕ
name_at table address = name_by address (label_at table address)

a_label : name_by 65536 (Some (codes "f", 0)) ≡ codes "f"
a_label = refl

no_label : name_by 65560 None ≡ codes "0x00010018"
no_label = refl

-- ---- where an address is in the source

-- what follows the last `/` of a path
abbrev pub file_name : List ℕ → List ℕ
file_name path = reverse (take_while (λ byte. not (byte == 47)) (reverse path))

a_file : file_name (codes "/w/p.s") ≡ codes "p.s"
a_file = refl

abbrev pub source_of : List ℕ → Source
source_of path = record { name = file_name path; path = path }

-- source, line and column as the editor counts, by the line in the image
abbrev pub source_by : View → Option ℕ → Option Source
source_by view None = None
source_by view (Some line) = Some (source_of view.path)

abbrev pub line_by : View → Option ℕ → ℕ
line_by view None = 0
line_by view (Some line) = line_in_editor view.line_base line

abbrev pub column_by : View → Option ℕ → ℕ
column_by view None = 0
column_by view (Some line) = view.column_base

-- ---- the answer

-- the frame at an address, with this number
abbrev pub frame : Table → View → ℕ → ℕ → StackFrame
frame table view id address = record {
  column = column_by view (line_of table address);
  id = id;
  instruction_pointer_reference = address;
  line = line_by view (line_of table address);
  name = name_at table address;
  source = source_by view (line_of table address);
}

-- the frame of an index
abbrev pub frame_at : Table → View → Numbers → List ℕ → ℕ → StackFrame
frame_at table view numbers addresses index =
    frame table view (number_for numbers (Frame index)) (slice_index addresses index)

-- the frames of these indices
abbrev pub body_of : Table → View → Numbers → List ℕ → List ℕ → ResponseBody
body_of table view numbers addresses indices = StackTrace (record {
  stack_frames = map (frame_at table view numbers addresses) indices;
  total_frames = length addresses;
})

-- the answer, in which the frames have the numbers to come
abbrev pub stack_trace : StackTraceArguments → Debugged → Table → Numbers → View → Result ResponseBody Refusal
stack_trace arguments machine table numbers view =
    Ok (body_of table view (with_targets numbers (frames_given arguments machine)) (addresses machine)
    (indices arguments (length (addresses machine))))
