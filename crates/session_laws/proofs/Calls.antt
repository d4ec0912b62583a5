-- What a call leads to.
use Rattle.session_laws.proofs.Common.{[], AnEvent as Event, Applied, Cut, Ends, EndsWell, Err, EventError, Happened, histories, led_append, led_to, List, moves_asked, NoMemory, None, Ok, Option, ran_out, refl, Result, Session, Some, start, sym, Whole, ℕ, ◌∷◌}
use Rattle.session.specs.Kept.{Kept, Stands}
use Rattle.session_laws.specs.Calls.{AddsDone, CallsLead, Leads, LeadsOn}

module _ (s : Session) (e : Event) (new : Kept) where
  done : (x : Applied) (out : Option ℕ) → EndsWell histories s e x out (λ t. Stands new t)
      → (more : List Happened) × (AddsDone s e out more × Stands new (led_to more s))
  done x None h = (Whole e ∷ [], (refl, h.1))
  done x (Some moved) h = (
    Cut (moves_asked e) h.count ∷ [],
    (record { count = h.count; is = refl; goes_on = h.goes_on; moves = h.moves; lacks = h.lacks }, h.holds),
  )

  leads : (result : Result Applied EventError) → Ends histories s e result (λ t. Stands new t) → Leads s e result new
  leads (Ok x) h = let d = done x (ran_out x) h in record { more = d.0; adds = d.1.0; stands = d.1.1 }
  leads (Err NoMemory) h = record { more = []; adds = refl; stands = h.1 }
  leads (Err error) h = record { more = Whole e ∷ []; adds = refl; stands = h.1 }

pub calls_lead : CallsLead
calls_lead s old new e result stands h = leads s e new result (h.to_each s stands)

pub leads_on : LeadsOn
leads_on from happened more = sym (led_append happened more (start from))
