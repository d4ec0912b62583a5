-- What the code keeps of an error represents a finding.
use Rattle.std.specs.Prelude.{List, map, option_map, string_bytes}
use Rattle.assembler.specs.Program.{source}
use Rattle.assembler.specs.declared.error.AsmError.{AsmError}
use Rattle.diagnostics.specs.Diagnoses.{Finding, HasColumn, located}
use Rattle.diagnostics.specs.Errors.{Located, Source}
use Rattle.std.specs.List.{All}
use Rattle.diagnostics.specs.declared.errors.Told.{Told}
use Rattle.diagnostics.specs.declared.found.Found.{Found}
use Rattle.diagnostics.specs.declared.reading.ReadLine.{ReadLine}

-- the finding that is kept
abbrev pub finding_of : Told → Finding
finding_of told = record {
  error = told.error;
  line = option_map (λ l. l.now) told.text;
  column = told.fault.column;
  words = string_bytes told.fault.words;
}

-- the findings that are kept
abbrev pub findings_of : List Told → List Finding
findings_of list = map finding_of list

-- the errors that they describe
abbrev pub located_in : List Told → List Located
located_in list = map located (findings_of list)

-- the column of each is one of its line
abbrev pub HaveColumns : List Told → Type 0
HaveColumns list = All (λ told. HasColumn (finding_of told)) list

-- ---- what the passes keep

-- a line that was read
abbrev pub source_of : ReadLine → Source
source_of read = source read.number read.line

-- lines that were read
abbrev pub program_of : List ReadLine → List Source
program_of list = map source_of list

-- the errors that were found
abbrev pub errors_found : List Found → List AsmError
errors_found list = map (λ found. found.error) list
