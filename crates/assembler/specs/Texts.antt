-- The disassembly of an instruction goes back to its word.
--
-- An instruction at an address has a text (the page Texts of the crate rv32i) and a word (the page Encoding). The text
-- is a line of assembly. That line has no label, and its statement has four bytes at that address: those of the word,
-- the least first, whatever labels the lines around it define.
use Rattle.std.specs.Prelude.{◌≡◌, ℕ, ◌^◌, ◌<◌, List, Some}
use Rattle.image.specs.Lines.{Label}
use Rattle.image.specs.Memory.{word_bytes}
use Rattle.rv32i.specs.Encoding.{Encodes}
use Rattle.rv32i.specs.Texts.{HasText}
use Rattle.rv32i.specs.declared.instr.Instr.{Instr}
use Rattle.statements.specs.Reading.{read}
use Rattle.statements.specs.Texts.{stated_alone}
use Rattle.statements.specs.declared.statement.Statement.{Statement}
use Rattle.assembler.specs.Contents.{content_at, IsPart}
use Rattle.assembler.specs.Places.{size_of}

-- A statement is a word at an address: it has four bytes there, those of the word are right for it, and no others are.
pub record IsWordAt (pc word : ℕ) (statement : Statement) : Type 0 where
  pub size : size_of statement pc ≡ 4
  pub bytes : (labels : List Label) → IsPart (content_at labels pc (Some statement)) (word_bytes word)
  pub unique : (labels : List Label) (bytes : List ℕ) → IsPart (content_at labels pc (Some statement)) bytes →
      bytes ≡ word_bytes word

-- A text is read as such a statement, without labels.
pub record ReadsAsWord (pc word : ℕ) (text : List ℕ) : Type 0 where
  pub statement : Statement
  pub reads : read text ≡ stated_alone statement
  pub stands : IsWordAt pc word statement

-- The disassembly of each instruction, at each address, reads back as the word that encodes it.
abbrev pub TextsAreWords : Type 0
TextsAreWords = (i : Instr) (pc word : ℕ) (text : List ℕ) → pc < 2 ^ 32 → HasText i pc text → Encodes i word →
    ReadsAsWord pc word text
