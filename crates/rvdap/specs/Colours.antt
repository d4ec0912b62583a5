-- The colours of what is shown.
--
-- A text in a colour stands between two escape sequences (ECMA-48, section 8.3.117, SELECT GRAPHIC RENDITION). There are none where
-- standard output is no terminal, and, by the convention of https://no-color.org, where NO_COLOR is set and not empty.
use Rattle.std.specs.Prelude.{ℕ, Bool, true, false, List, ◌∷◌, ◌++◌, Option, Some, None, codes}
use Rattle.std.specs.List.{flat_map}
use Rattle.console.specs.Texts.{text_of, tone_of}
use Rattle.console.specs.declared.piece.Piece.{Piece}
use Rattle.console.specs.declared.piece.Tone.{Tone}
use Rattle.console.specs.declared.piece.Tone.TheVariants.{Plain, Program, Refusal, Here, Fact}
use Rattle.rvdap.specs.declared.debug.colours.Colours.{Colours}
use Rattle.rvdap.specs.declared.debug.colours.Colours.TheVariants.{Shown, Absent}
use Rattle.rvdap.specs.declared.debug.origins.Peer.{Peer}
use Rattle.rvdap.specs.declared.debug.origins.Peer.TheVariants.{Terminal, Other}

-- whether there are colours, by where the output goes and whether they are refused
abbrev pub colours_of : Peer → Bool → Colours
colours_of Terminal true = Absent
colours_of Terminal false = Shown
colours_of Other refused = Absent

-- what begins a text of a tone: cyan, red or bold, where it is not plain
abbrev pub opening_of : Tone → Option (List ℕ)
opening_of Plain = None
opening_of Program = Some (27 ∷ codes "[36m")
opening_of Refusal = Some (27 ∷ codes "[31m")
opening_of Here = Some (27 ∷ codes "[1m")
opening_of Fact = None

-- what ends it
abbrev pub closing : List ℕ
closing = 27 ∷ codes "[0m"

-- a text between the two
abbrev pub marked : Option (List ℕ) → List ℕ → List ℕ
marked None words = words
marked (Some opening) words = opening ++ words ++ closing

-- a text of a tone, as it is written
abbrev pub coloured : Colours → Tone → List ℕ → List ℕ
coloured Shown tone words = marked (opening_of tone) words
coloured Absent tone words = words

-- a piece of a screen, as it is written
abbrev pub written_of : Colours → Piece → List ℕ
written_of colours piece = coloured colours (tone_of piece) (text_of piece)

-- a screen: its pieces, one after the other
abbrev pub written : Colours → List Piece → List ℕ
written colours pieces = flat_map (written_of colours) pieces
