-- What an editor concludes from the messages that have come.
--
-- The bytes of a connection come in order, and some of them have come: a prefix. The messages whose frames lie wholly in
-- it have been told. An editor folds them, one after the other, into what it knows, and for that it remembers its own
-- requests. Whatever it then knows was so when the last of these messages was queued.
use Rattle.std.specs.Prelude.{ℕ, ◌-◌, nat_le, if◌then◌else◌, List, [], ◌∷◌, length, Option, Some, None, option_map, ⊤}
use Rattle.facts.specs.Facts.{Facts, nothing_known}
use Rattle.mirror.specs.Folding.{folded}
use Rattle.mirror.specs.Requests.{asked_of}
use Rattle.mirror.specs.declared.asked.Asked.{Asked}
use Rattle.queues.specs.declared.pending.Ask.{Ask}
use Rattle.session.specs.Sessions.{Session, Said, frame_said, life_of}
use Rattle.snapshots.specs.Shown.{Snapshot, shown}
use Rattle.session_laws.specs.Holding.{Holds}
use Rattle.session_laws.specs.Known.{first_asked}

-- what an editor remembers of its requests: of each number the first
abbrev pub remembered : List Ask → ℕ → Option Asked
remembered asks number = option_map (λ r. asked_of r.command) (first_asked asks number)

-- the messages that were told with the first bytes of a connection, this many of them
abbrev pub told_within : ℕ → List Said → List Said
told_within count [] = []
told_within count (m ∷ said) = if nat_le (length (frame_said m)) count
    then m ∷ told_within (count - length (frame_said m)) said else []

-- what is known after these messages, and what was known before them
abbrev pub known_after : (ℕ → Option Asked) → Facts → List Said → Facts
known_after asked facts [] = facts
known_after asked facts (m ∷ said) = known_after asked (folded asked facts m.message) said

-- what could be seen when the last message of a list was queued, or before it, where there is none
abbrev pub last_seen : Option Snapshot → List Said → Option Snapshot
last_seen before [] = before
last_seen before (m ∷ said) = last_seen (Some m.snapshot) said

-- what is known was so when that was to be seen
abbrev pub WasSo : Facts → Option Snapshot → Type 0
WasSo facts None = ⊤
WasSo facts (Some seen) = Holds facts (shown seen)

-- What an editor knows by the first bytes of a connection was so when the last message in them was queued.
abbrev pub WhatIsKnownWasSo : Session → ℕ → ℕ → Type 0
WhatIsKnownWasSo s c count = let life = life_of c s in let told = told_within count life.said in
    WasSo (known_after (remembered life.heard) nothing_known told) (last_seen None told)
