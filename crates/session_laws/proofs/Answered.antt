-- What a turn does, in four: it is refused, it tells what is owed, it has nothing to answer, or it answers the first request that waits.
use Rattle.session_laws.proofs.Common.{[], answer_to, Answered, answered_by, answered_on, answered_with, answering, answers_next, Bool, cond, DidTurn, done, false, first_answered, FULL, Link, List, ltb, next_answered, next_turn, None, NotConnected, Option, Outcome, outcome_at, Pending, Program, refl, refused, Seen, Some, telling, Tick, true, Turn, turn_by, turn_of, ℕ, ◌∷◌, ◌≡◌}
use Rattle.session.specs.declared.event.Turned.{Turned}
use Rattle.session.specs.declared.event.Turned.TheVariants as turned

-- a request that is answered
abbrev pub the_answered : Seen → Link → Option (List ℕ) → Pending → Answered
the_answered seen l file p = record { request = p; answer = answer_to seen.now l.terms file p }

-- what has to be shown of each
pub record ByTurn (seen : Seen) (file : Option (List ℕ)) (P : Option Answered → Outcome → Type 0) : Type 0 where
  pub refused : P None (refused NotConnected)
  pub tells : (p : Program) (tick : Tick) → seen.now.debuggee.program ≡ Some p → p.owed ≡ Some tick
      → P None (done (DidTurn turned.Answered) (telling seen.now p tick))
  pub nothing : (x : Turned) → P None (done (DidTurn x) [])
  pub answers : (l : Link) (p : Pending)
      → P (Some (the_answered seen l file p)) (done (DidTurn turned.Answered) (answering (the_answered seen l file p).answer))

module _ (seen : Seen) (file : Option (List ℕ)) (P : Option Answered → Outcome → Type 0) (h : ByTurn seen file P) (l : Link) where
  waiting : (pending : List Pending) → P (first_answered seen l file pending) (next_turn seen.now l.terms file pending)
  waiting [] = h.nothing turned.Nothing
  waiting (p ∷ rest) = h.answers l p

  with_room : P (next_answered seen l file) (answers_next seen l file)
  with_room = by (ltb FULL seen.waits) where
    by : (full : Bool) → P (cond full None (first_answered seen l file seen.now.arrivals.pending))
        (cond full (done (DidTurn turned.Full) []) (next_turn seen.now l.terms file seen.now.arrivals.pending))
    by true = h.nothing turned.Full
    by false = waiting seen.now.arrivals.pending

  owing : (p : Program) (owed : Option Tick) → seen.now.debuggee.program ≡ Some p → p.owed ≡ owed
      → P (answered_by owed seen l file) (turn_by owed seen l p file)
  owing p None is owes = with_room
  owing p (Some tick) is owes = h.tells p tick is owes

  of_program : (program : Option Program) → seen.now.debuggee.program ≡ program
      → P (answered_with program seen l file) (turn_of program seen l file)
  of_program None is = with_room
  of_program (Some p) is = owing p p.owed is refl

pub by_turn : (seen : Seen) (file : Option (List ℕ)) (P : Option Answered → Outcome → Type 0) → ByTurn seen file P → (link : Option Link)
    → P (answered_on link seen file) (outcome_at seen link (Turn file))
by_turn seen file P h None = h.refused
by_turn seen file P h (Some l) = of_program seen file P h l seen.now.debuggee.program refl
