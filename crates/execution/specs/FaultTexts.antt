-- What a program did wrong, in words: a clause that follows what the trap is called.
use Rattle.std.specs.Prelude.{◌≡◌, ℕ, List, ◌++◌, codes}
use Rattle.std.specs.Fmt.{decimal}
use Rattle.rv32i.specs.Texts.{IsTextOf, address_text}
use Rattle.execution.specs.declared.faults.Fault.{Fault}
use Rattle.execution.specs.declared.faults.Fault.TheVariants.{WentOutside, Empty, RanPastEnd, NotCode, WroteOver, Outside, Misaligned, UnknownCall}
use Rattle.execution.specs.declared.uses.Use.{Use}
use Rattle.execution.specs.declared.uses.Verb.{Verb}
use Rattle.execution.specs.declared.uses.Verb.TheVariants.{Reads, Writes, GoesTo}

-- what an instruction does with an address
abbrev pub verb : Verb → List ℕ
verb Reads = codes " reads "
verb Writes = codes " writes "
verb GoesTo = codes " goes to "

abbrev pub used : List ℕ → Use → List ℕ
used text u = text ++ verb u.verb ++ address_text u.address

-- why that is wrong
abbrev pub no_memory : List ℕ
no_memory = codes ", where no memory is"

abbrev pub no_multiple : ℕ → List ℕ
no_multiple unit = codes ", which is no multiple of " ++ decimal unit

-- what a program that stands at pc did wrong, where this text says what is there
abbrev pub words : Fault → ℕ → List ℕ → List ℕ
words WentOutside pc text = codes "the program went to " ++ address_text pc ++ no_memory
words Empty pc text = codes "there is no instruction"
words RanPastEnd pc text = codes "ran past the last line"
words NotCode pc text = codes "no instruction stands here, but " ++ text
words WroteOver pc text = codes "the program wrote over this instruction: " ++ text ++ codes " stands here now"
words (Outside u) pc text = used text u ++ no_memory
words (Misaligned u) pc text = used text u ++ no_multiple u.unit
words (UnknownCall number) pc text = codes "a7 is " ++ decimal number ++ codes ", and the calls are 1 and 93"

-- the text is the disassembly of the word that stands there
abbrev pub IsTold : Fault → ℕ → ℕ → List ℕ → Type 0
IsTold fault pc word told = (text : List ℕ) × IsTextOf word pc text × (told ≡ words fault pc text)
