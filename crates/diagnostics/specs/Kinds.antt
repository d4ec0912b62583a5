-- What an operand has to be: a register, a number of some range, a label and so on.
--
-- Whether a text is an operand of a kind is what the reader of lines says of it: each kind has a line that is right but
-- for its last operand, and that is put after it.
use Rattle.std.specs.Prelude.{ℕ, List, ◌++◌, Option, codes}
use Rattle.assembler.specs.Errors.{error_in}
use Rattle.statements.specs.Reading.{read}
use Rattle.statements.specs.declared.error.LineError.{LineError}
use Rattle.diagnostics.specs.declared.kinds.Kind.{Kind}
use Rattle.diagnostics.specs.declared.kinds.Kind.TheVariants as kind

-- a line that lacks its last operand, which has to be of this kind
abbrev pub probe : Kind → List ℕ
probe kind.Register = codes "jr "
probe kind.Immediate = codes "addi a0, a0, "
probe kind.Amount = codes "slli a0, a0, "
probe kind.Upper = codes "lui a0, "
probe kind.UpperNumber = codes "auipc a0, "
probe kind.Constant = codes "li a0, "
probe kind.Access = codes "lw a0, "
probe kind.Label = codes "call "
probe kind.Target = codes "j "
probe kind.Word = codes ".word "
probe kind.Half = codes ".half "
probe kind.Byte = codes ".byte "
probe kind.Size = codes ".space "
probe kind.Power = codes ".align "
probe kind.Set = codes "fence iorw, "

-- what the reader has against a text as an operand of a kind
abbrev pub refusal : Kind → List ℕ → Option LineError
refusal kind text = error_in (read (probe kind ++ text))
