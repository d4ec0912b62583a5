-- An event that is refused changes nothing.
use Rattle.session_laws.proofs.Common.{AnEvent as Event, arith, Err, EventError, histories, Link, Option, outcome_at, performed, RefusedChangesNothing, Session, Slice, ◌≡◌}

unchanged : (s : Session) (link : Option Link) (e : Event) (error : EventError) → (outcome_at (histories.see s) link e).answer ≡ Err error
    → performed histories (outcome_at (histories.see s) link e).acts s ≡ s
unchanged s link e error h = grind arith

pub refused_changes_nothing : (s : Session) → RefusedChangesNothing s
refused_changes_nothing s (Slice n) error h = absurd (cc)
refused_changes_nothing s e error h = unchanged s s.now.link e error h
