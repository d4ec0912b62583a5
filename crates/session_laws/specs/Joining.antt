-- Slices that follow each other are one of all their moves.
--
-- Whoever records what happens to a session may write such slices as one: what is played again leads to the same, and so queues the same
-- bytes on each connection.
use Rattle.std.specs.Prelude.{◌≡◌, ◌⊎◌, ℕ, ◌+◌, List, [], ◌∷◌}
use Rattle.session.specs.declared.event.Event.{Event}
use Rattle.session.specs.declared.event.Event.TheVariants.{Slice}
use Rattle.session.specs.Effects.{after_all}
use Rattle.session.specs.Sessions.{Session, histories}

-- events, where slices that follow each other may be one of all their moves
abbrev pub AreJoined : List Event → List Event → Type 0
AreJoined [] joined = joined ≡ []
AreJoined (e ∷ events) [] = ⊥
AreJoined (e ∷ events) (j ∷ joined) = ((j ≡ e) × AreJoined events joined)
    ⊎ ((a : ℕ) × (b : ℕ) × (e ≡ Slice a) × (j ≡ Slice (a + b)) × AreJoined events (Slice b ∷ joined))

-- they lead to the same
abbrev pub JoinedLeadToTheSame : Type 0
JoinedLeadToTheSame = (events joined : List Event) → AreJoined events joined
    → (s : Session) → after_all histories joined s ≡ after_all histories events s
