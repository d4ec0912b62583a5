-- The headline: what an editor's mirror holds was true.
--
-- An editor's mirror was told requests and fed bytes of a connection, in turn, and the bytes are any prefix of it. It has
-- found no fault then, and what it knows is what the whole messages in that prefix tell, however the requests and the bytes
-- came in turn; and that was so when the last of these messages was queued. The same holds of each `mirror::Mirror` that
-- represents these inputs.
use Rattle.std.specs.Prelude.{◌≡◌, ℕ, List, length, None}
use Rattle.facts.specs.Facts.{Facts, nothing_known}
use Rattle.mirror.specs.Kept.{Kept, facts_of}
use Rattle.mirror.specs.Streams.{Input, StandsFor, after, stream_fault}
use Rattle.session.specs.Sessions.{Life, Session, life_of}
use Rattle.session_laws.specs.Concluding.{WasSo, known_after, last_seen, remembered, told_within}
use Rattle.session_laws.specs.Editors.{IsEditor, fed_in}

-- what is known after the whole messages in the first bytes of a connection, this many of them
abbrev pub known_within : ℕ → Life → Facts
known_within count life = known_after (remembered life.heard) nothing_known (told_within count life.said)

-- these facts were so when the last of these messages was queued
abbrev pub WereSo : ℕ → Life → Facts → Type 0
WereSo count life facts = WasSo facts (last_seen None (told_within count life.said))

-- what a mirror holds by these inputs
pub record HoldsWhatWasSo (life : Life) (inputs : List Input) : Type 0 where
  pub readable : stream_fault (fed_in inputs) ≡ None
  pub facts : (after inputs).facts ≡ known_within (length (fed_in inputs)) life
  pub so : WereSo (length (fed_in inputs)) life (after inputs).facts
  pub mirror : (kept : Kept) → StandsFor kept (after inputs) → WereSo (length (fed_in inputs)) life (facts_of kept.known)

-- An editor's mirror, on whatever connection and fed any prefix of its bytes, holds only facts that were so.
abbrev pub MirrorsHoldWhatWasSo : Session → Type 0
MirrorsHoldWhatWasSo s = (c : ℕ) (inputs : List Input) → IsEditor (life_of c s) inputs → HoldsWhatWasSo (life_of c s) inputs
