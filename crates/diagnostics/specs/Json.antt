-- What is told of a text that does not assemble, as JSON (RFC 8259): of each of its errors an object on a line of its own,
-- with the members that `Diagnoses` has words for. The text is the compact one, without blanks.
use Rattle.std.specs.Prelude.{ℕ, List, [], ◌∷◌, ◌++◌, Option, Some, None, codes}
use Rattle.std.specs.List.{flat_map}
use Rattle.serde_json.specs.Data.{Data, member, no_members, null, number, object, string, unsigned}
use Rattle.serde_json.specs.Written.{compact_text}
use Rattle.assembler.specs.Errors.{kind_name}
use Rattle.diagnostics.specs.Diagnoses.{Finding}

-- a line, or that it is left out
abbrev pub line_data : Option (List ℕ) → Data
line_data None = null
line_data (Some line) = string line

-- what is told of an error
abbrev pub told_data : List ℕ → Finding → Data
told_data file finding = object (member (codes "column") (number (unsigned finding.column))
    (member (codes "explanation") (string finding.words)
    (member (codes "file") (string file)
    (member (codes "kind") (string (kind_name finding.error.kind))
    (member (codes "line") (number (unsigned finding.error.line))
    (member (codes "text") (line_data finding.line) no_members))))))

-- the same as a line
abbrev pub told_json : List ℕ → Finding → List ℕ
told_json file finding = compact_text (told_data file finding) ++ codes "\n"

-- what is told of a text, if anything is wrong with it
abbrev pub diagnosis_json : List ℕ → List Finding → Option (List ℕ)
diagnosis_json file [] = None
diagnosis_json file (finding ∷ others) = Some (flat_map (told_json file) (finding ∷ others))
