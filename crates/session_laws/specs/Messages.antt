-- What holds of each message after any list of events: an editor can read it.
--
-- A message is read as it was meant where its texts are UTF-8, as those of JSON are (RFC 8259, section 8.1), and where it
-- is no longer than a body that the editor reads. What an adapter says has texts of three origins. Some are from
-- requests, whose bodies have at most 1,048,576 bytes: the name of a request that it lacks, and the path of a program.
-- Others are from the text of a program, which has at most as many: its labels, which name frames. All others it makes
-- itself: numbers, the disassembly of a word, and words of its own. And its lists are short: at most 257 frames, 1,024
-- breakpoints, 4,096 instructions and 65,536 bytes of memory. So it does not matter what an editor sends, what a program
-- does, and what stands in a file.
use Rattle.std.specs.Prelude.{ℕ, ◌<◌, ◌≤◌, All, IfSome, List, Option, length}
use Rattle.std.specs.Str.{IsUtf8}
use Rattle.replies.specs.Laws.{HasTexts}
use Rattle.replies.specs.Messages.{text_of}
use Rattle.session.specs.Sessions.{Beginning, Said, Session, life_of}

-- the path of a program that is given at the start, if one is: UTF-8, and at most 1,048,576 bytes
abbrev pub IsPath : Option (List ℕ × List ℕ) → Type 0
IsPath given = IfSome given (λ program. IsUtf8 program.0 × (length program.0 ≤ 1048576))

abbrev pub HasPath : Beginning → Type 0
HasPath from = IsPath from.program

-- The texts of each message of each connection are UTF-8.
abbrev pub TextsAreUtf8 : Session → Type 0
TextsAreUtf8 s = (c : ℕ) → All (λ (m : Said). HasTexts m.message) (life_of c s).said

-- The text of each message has fewer bytes than the longest body that a mirror reads.
abbrev pub MessagesAreShort : Session → Type 0
MessagesAreShort s =
    (c : ℕ) → All (λ (m : Said). length (text_of m.seq m.message) < 4294967295) (life_of c s).said

-- Each message has texts that are UTF-8, and fewer bytes than a mirror reads of one.
abbrev pub MessagesAreReadable : Session → Type 0
MessagesAreReadable s = (c : ℕ)
    → All (λ (m : Said). HasTexts m.message × (length (text_of m.seq m.message) < 4294967295)) (life_of c s).said
