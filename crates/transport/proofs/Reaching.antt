-- What driving and serving lead to.
use Rattle.transport.proofs.Common.{[], after_all, after_rounds, append_assoc, arith, Cause, Connect, Did, DropConnection, Effect, end_of, Event, events_by, events_of, false, histories, Hold, Kept, Leaves, Line, List, map, moves_granted, NoAnswer, NoMemory, NoRoom, Option, Ran, refl, Round, Session, Slice, Stands, TimeCut, true, TurnsMade, ℕ, ◌++◌, ◌-◌, ◌∙◌, ◌∷◌, ◌≡◌, ◌⊎◌}
use Rattle.session.proofs.Reaching.{led_append, whole_events}
use Rattle.session.specs.Reached.{Whole, Cut}
use Rattle.transport.specs.Reaching.{DrivingLeads, DrivingTells, IsLedTo, ServingLeads, ServingTells}
use Rattle.transport.specs.Serving.{Iteration, Unattended, Connection, AreIterations, HasLeft, IsWhy, LeavesBy, LeavesCut, Why, UnattendedCut, ConnectionCut, after_iteration, after_iterations, end_by, events_at, events_for, events_of_all, turns_in}
use Rattle.std.specs.Prelude.{◌-◌}

-- ---- what is told

after-append : (xs ys : List Event) (s : Session) → after_all histories (xs ++ ys) s ≡ after_all histories ys (after_all histories xs s)
after-append [] ys s = refl
after-append (x ∷ xs) ys s = after-append xs ys (Effect s x)

-- the events of rounds, and then others
rounds_then : (s : Session) (rounds : List Round) (events : List Event)
    → after_all histories (events_of rounds ++ events) s ≡ after_all histories events (after_rounds s rounds)
rounds_then s [] events = refl
rounds_then s (Did e ∷ rounds) events = rounds_then (Effect s e) rounds events
rounds_then s (Ran true ∷ rounds) events = rounds_then (Effect (Effect s (Slice moves_granted)) Hold) rounds events
rounds_then s (Ran false ∷ rounds) events = rounds_then (Effect s (Slice moves_granted)) rounds events

end_told : (cause : Cause) (t : Session) (kept : Kept) → Leaves cause t kept
    → (end_of cause ≡ NoMemory) ⊎ Stands kept (after_all histories (events_by cause) t)
end_told cause t kept l = grind arith

pub driving_tells : DrivingTells
driving_tells before after old new turns s kept end d = (
  events_of d.rounds ++ events_by d.cause,
  d.told,
  rw (← d.is_end, rounds_then) (end_told d.cause (after_rounds s d.rounds) kept d.leaves),
)

-- after a connection that ended for such a cause
connection_then : (s : Session) (rounds : List Round) (cause : Cause) (events : List Event) → HasLeft cause
    → after_all histories (events_for rounds cause ++ events) s
    ≡ after_all histories events (Effect (after_rounds (Effect s Connect) rounds) DropConnection)
connection_then s rounds cause events left =
    grind (arith, append_assoc (events_of rounds) (events_by cause) events, rounds_then (Effect s Connect) rounds (DropConnection ∷ events))

iterations_told : (turns : ℕ) (s : Session) (iterations : List Iteration) → AreIterations turns s iterations
    → after_all histories (events_of_all iterations) s ≡ after_iterations s iterations
iterations_told turns s [] are = refl
iterations_told turns s (Unattended ∷ iterations) are =
    iterations_told (turns - 1) (Effect s (Slice moves_granted)) iterations are.1
iterations_told turns s (Connection old new rounds cause ∷ iterations) are =
    let x = Connection old new rounds cause in
    connection_then s rounds cause (events_of_all iterations) are.0.1
    ∙ iterations_told (turns - turns_in x) (after_iteration s x) iterations are.1

why_told : (why : Why) (wires : Option (List Line)) (left taken : ℕ) (t : Session) (kept : Kept) → IsWhy why wires left taken t
    → LeavesBy why t kept → (end_by why ≡ NoMemory) ⊎ Stands kept (after_all histories (events_at why) t)
why_told why wires left taken t kept is l = grind (arith, append_assoc, rounds_then)

pub serving_tells : ServingTells
serving_tells before after old new turns s kept end d = (
  events_of_all d.iterations ++ events_at d.why,
  d.told,
  rw (← d.is_end, after-append, iterations_told turns s d.iterations d.are_iterations)
      (why_told d.why _ _ _ (after_iterations s d.iterations) kept d.is_why d.leaves),
)

-- ---- what leads there

-- these events, and what leads on after them
then_led : (events : List Event) (s t : Session) (kept : Kept) → after_all histories events s ≡ t → IsLedTo t kept → IsLedTo s kept
then_led events s t kept e led = (map Whole events ++ led.0, rw (led_append, whole_events, e) led.1)

ends_led : (cause : Cause) (t : Session) (kept : Kept) → Leaves cause t kept → IsLedTo t kept
ends_led NoRoom t kept l = ([], l)
ends_led (NoAnswer unused) t kept l = ([], l)
ends_led TimeCut t kept l = (Cut moves_granted l.1.count ∷ [], l.1.holds)
ends_led TurnsMade t kept l = ([], l)
ends_led _ t kept l = (Whole DropConnection ∷ [], l)

pub driving_leads : DrivingLeads
driving_leads before after old new turns s kept end d =
    then_led (events_of d.rounds ++ []) s _ kept (rounds_then s d.rounds []) (ends_led d.cause (after_rounds s d.rounds) kept d.leaves)

cut_led : (cause : Cause) (t : Session) (kept : Kept) → LeavesCut cause t kept → IsLedTo t kept
cut_led TimeCut t kept l = (Cut moves_granted l.1.count ∷ Whole DropConnection ∷ [], l.1.holds)
cut_led _ t kept l = (Whole DropConnection ∷ [], l)

why_led : (why : Why) (t : Session) (kept : Kept) → LeavesBy why t kept → IsLedTo t kept
why_led UnattendedCut t kept l = (Cut moves_granted l.1.count ∷ [], l.1.holds)
why_led (ConnectionCut first last rounds cause) t kept l =
    then_led (Connect ∷ events_of rounds ++ []) t _ kept (rounds_then (Effect t Connect) rounds [])
    (cut_led cause (after_rounds (Effect t Connect) rounds) kept l)
why_led _ t kept l = ([], l)

pub serving_leads : ServingLeads
serving_leads before after old new turns s kept end d =
    then_led (events_of_all d.iterations) s _ kept (iterations_told turns s d.iterations d.are_iterations)
    (why_led d.why (after_iterations s d.iterations) kept d.leaves)
