-- What holds of every stream and of every past. Each of these statements is the contract of a function of the module `laws`.
use Rattle.std.specs.Prelude.{◌≡◌, ℕ, List, [], ◌∷◌, ◌++◌, fold, Option, Some}
use Rattle.facts.specs.Facts.{Facts}
use Rattle.mirror.specs.Folding.{folded}
use Rattle.mirror.specs.Streams.{Input, Past, after, after_input, messages_so_far, stream_fault, with_piece}
use Rattle.mirror.specs.declared.asked.Asked.{Asked}
use Rattle.mirror.specs.declared.error.MirrorError.{MirrorError}

-- However the bytes between two requests are cut, the facts after them are the same.
abbrev pub CutsDoNotMatter : Type 0
CutsDoNotMatter = (past : Past) (piece next : List ℕ)
    → with_piece (with_piece past piece) next ≡ with_piece past (piece ++ next)

-- The facts after the bytes of a whole stream are those that all its messages make, in order.
abbrev pub MessagesMakeFacts : Type 0
MessagesMakeFacts = (asked : ℕ → Option Asked) (facts : Facts) (stream : List ℕ)
    → (with_piece (record { asked = asked; facts = facts; bytes = [] }) stream).facts
    ≡ fold (folded asked) facts (messages_so_far stream)

-- A fault of a stream is there for good, and no message comes after it.
abbrev pub FaultsStay : Type 0
FaultsStay = (stream more : List ℕ) (error : MirrorError) → stream_fault stream ≡ Some error
    → (stream_fault (stream ++ more) ≡ Some error) × (messages_so_far (stream ++ more) ≡ messages_so_far stream)

-- What one more input makes of the past that a list of inputs makes.
abbrev pub InputsMakePasts : Type 0
InputsMakePasts = (inputs : List Input) (input : Input) → after (inputs ++ input ∷ []) ≡ after_input (after inputs) input
