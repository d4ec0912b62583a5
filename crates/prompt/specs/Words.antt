-- The words that a line may begin with.
--
-- Each stands in one row, beside what it asks for. Those that gdb has mean the same there, and so do the short forms.
use Rattle.std.specs.Prelude.{◌≡◌, ℕ, if◌then◌else◌, List, [], ◌∷◌, bytes_eq, Option, Some, None, codes, refl}
use Rattle.prompt.specs.declared.words.Direction.TheVariants as d
use Rattle.prompt.specs.declared.words.Motion.{Motion}
use Rattle.prompt.specs.declared.words.Motion.TheVariants as m
use Rattle.prompt.specs.declared.words.Plain.{Plain}
use Rattle.prompt.specs.declared.words.Plain.TheVariants as p
use Rattle.prompt.specs.declared.words.Unit.TheVariants as u
use Rattle.prompt.specs.declared.words.Word.{Word}
use Rattle.prompt.specs.declared.words.Word.TheVariants as w

-- what stands beside a name in a table
abbrev pub named : {A : Type 0} → List (List ℕ × A) → List ℕ → Option A
named [] text = None
named ((name, a) ∷ rows) text = if bytes_eq text name then Some a else named rows text

-- of the program
abbrev pub session_words : List (List ℕ × Plain)
session_words = (codes "quit", p.Quit) ∷ (codes "q", p.Quit) ∷ (codes "exit", p.Quit) ∷ (codes "run", p.Run) ∷
    (codes "r", p.Run) ∷ (codes "restart", p.Run) ∷ []

-- what is looked at
abbrev pub looking_words : List (List ℕ × Plain)
looking_words = (codes "breakpoints", p.Breakpoints) ∷ (codes "i", p.Breakpoints) ∷ (codes "stack", p.Stack) ∷
    (codes "backtrace", p.Backtrace) ∷ (codes "bt", p.Backtrace) ∷ (codes "labels", p.Labels) ∷
    (codes "where", p.Where) ∷ (codes "frame", p.Where) ∷ (codes "f", p.Where) ∷ []

-- motions on
abbrev pub forward_words : List (List ℕ × Motion)
forward_words = (codes "continue", m.Continue) ∷ (codes "c", m.Continue) ∷ (codes "step", m.Step) ∷
    (codes "s", m.Step) ∷ (codes "next", m.Next) ∷ (codes "n", m.Next) ∷ (codes "finish", m.Finish) ∷
    (codes "fin", m.Finish) ∷ []

-- by instructions, and back
abbrev pub other_motions : List (List ℕ × Motion)
other_motions = (codes "stepi", m.StepInstruction) ∷ (codes "si", m.StepInstruction) ∷
    (codes "nexti", m.NextInstruction) ∷ (codes "ni", m.NextInstruction) ∷ (codes "back", m.Back) ∷
    (codes "reverse-stepi", m.Back) ∷ (codes "rsi", m.Back) ∷ (codes "reverse-continue", m.ReverseContinue) ∷
    (codes "rc", m.ReverseContinue) ∷ []

-- breakpoints, and help
abbrev pub breakpoint_words : List (List ℕ × Word)
breakpoint_words = (codes "break", w.Break) ∷ (codes "b", w.Break) ∷ (codes "tbreak", w.Tbreak) ∷
    (codes "tb", w.Tbreak) ∷ (codes "log", w.Log) ∷ (codes "delete", w.Delete) ∷ (codes "d", w.Delete) ∷
    (codes "help", w.Help) ∷ (codes "h", w.Help) ∷ []

-- values
abbrev pub value_words : List (List ℕ × Word)
value_words = (codes "print", w.Print) ∷ (codes "p", w.Print) ∷ (codes "set", w.Set) ∷ (codes "display", w.Display) ∷
    (codes "undisplay", w.Undisplay) ∷ (codes "change", w.Change d.Forward) ∷
    (codes "back-to-change", w.Change d.Backward) ∷ []

-- registers, memory, instructions and lines
abbrev pub view_words : List (List ℕ × Word)
view_words = (codes "registers", w.Registers) ∷ (codes "regs", w.Registers) ∷ (codes "x", w.Examine u.Words) ∷
    (codes "xb", w.Examine u.Bytes) ∷ (codes "disassemble", w.Disassemble) ∷ (codes "disas", w.Disassemble) ∷
    (codes "list", w.List) ∷ (codes "l", w.List) ∷ []

-- what is found first
abbrev pub plain_or : Option Plain → Option Word → Option Word
plain_or (Some plain) others = Some (w.Plain plain)
plain_or None others = others

abbrev pub motion_or : Option Motion → Option Word → Option Word
motion_or (Some motion) others = Some (w.Motion motion)
motion_or None others = others

abbrev pub word_or : Option Word → Option Word → Option Word
word_or (Some word) others = Some word
word_or None others = others

-- what a word asks for, if it is one that is known
abbrev pub word_of : List ℕ → Option Word
word_of name =
    plain_or (named session_words name)
    (plain_or (named looking_words name)
    (motion_or (named forward_words name)
    (motion_or (named other_motions name)
    (word_or (named breakpoint_words name)
    (word_or (named value_words name) (named view_words name))))))

-- ---- examples

a_short_form : word_of (codes "rc") ≡ Some (w.Motion m.ReverseContinue)
a_short_form = refl

a_capital : word_of (codes "Step") ≡ None
a_capital = refl
