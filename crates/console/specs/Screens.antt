-- What is shown: words, and facts of the machine.
--
-- A debugger shows what its mirror holds: each register, byte, frame and breakpoint on the screen, and whether the machine runs, is
-- a fact of the mirror then. The mirror is that of a client, so all of them were so when the last message was queued that the
-- client took. Words are not such facts: lines of the text, values of expressions, why the machine stopped and what the
-- program printed are taken from the last answer.
use Rattle.std.specs.Prelude.{◌≡◌, ℕ, ◌+◌, List, Some, All, length, slice_get, ⊤}
use Rattle.client.specs.Following.{Follows, Kept, life}
use Rattle.facts.specs.Facts.{Facts}
use Rattle.facts.specs.declared.breakpoint.BreakInfo.{BreakInfo}
use Rattle.mirror.specs.Kept.{facts_of}
use Rattle.session.specs.Reached.{Happened}
use Rattle.session.specs.Sessions.{Beginning}
use Rattle.session_laws.specs.Headline.{WereSo}
use Rattle.console.specs.declared.piece.Listed.{Listed}
use Rattle.console.specs.declared.piece.Listed.TheVariants.{Source, Instructions, Functions}
use Rattle.console.specs.declared.piece.Piece.{Piece}
use Rattle.console.specs.declared.piece.Piece.TheVariants as piece

-- a list of breakpoints, for the program in the file of a path
abbrev pub listed : List ℕ → Facts → Listed → List BreakInfo
listed path facts Source = facts.source path
listed path facts Instructions = facts.instructions
listed path facts Functions = facts.functions

-- the word at an address has these bytes
abbrev pub HasWord : Facts → ℕ → ℕ → ℕ → ℕ → ℕ → Type 0
HasWord facts address first second third fourth =
    (facts.byte address ≡ Some first) × ((facts.byte (address + 1) ≡ Some second)
    × ((facts.byte (address + 2) ≡ Some third) × (facts.byte (address + 3) ≡ Some fourth)))

-- A piece is words, or one of the facts.
abbrev pub IsKnown : List ℕ → Facts → Piece → Type 0
IsKnown path facts (piece.Words tone words) = ⊤
IsKnown path facts (piece.Run state) = facts.run ≡ state
IsKnown path facts (piece.Register form number value) = facts.register number ≡ Some value
IsKnown path facts (piece.Word address first second third fourth) = HasWord facts address first second third fourth
IsKnown path facts (piece.Byte address value) = facts.byte address ≡ Some value
IsKnown path facts (piece.Frame index frame) = facts.frame index ≡ Some frame
IsKnown path facts (piece.Break list index found) = slice_get (listed path facts list) index ≡ Some found
IsKnown path facts piece.Unknown = ⊤

-- Each piece is.
abbrev pub AreKnown : List ℕ → Facts → List Piece → Type 0
AreKnown path facts pieces = All (IsKnown path facts) pieces

-- Facts were so in a session that was reached, when the last message was queued that its client took.
abbrev pub WereOnceSo : Kept → Facts → Type 0
WereOnceSo c facts = (from : Beginning) × ((happened : List Happened)
    × (Follows from happened c × WereSo (length (life from happened).taken) (life from happened) facts))

-- What is shown of the machine are facts of the mirror, and these were so when the last message was queued that was taken.
abbrev pub IsTrue : Kept → List ℕ → List Piece → Type 0
IsTrue c path pieces = AreKnown path (facts_of c.mirror.known) pieces × WereOnceSo c (facts_of c.mirror.known)
