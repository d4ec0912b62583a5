-- What `Goes` says of what is kept, `Happens` says of each session that it represents.
use Rattle.session.proofs.Common.{answer, Applied, effect, Ends, EndsWell, Err, Event, EventError, Goes, Happens, histories, keepings, Kept, kept_of, moves_asked, None, Ok, Option, ran_out, Result, Session, Some, Stands, subst, sym, ℕ, ◌∙◌, ◌≡◌}
use Rattle.session.specs.declared.event.EventError.TheVariants.{NoMemory}
use Rattle.session.proofs.Standing.{answer_kept, breaks_kept, effect_kept}

module _ (e : Event) (new : Kept) (s : Session) where
  ended : (result : Result Applied EventError) → (answer keepings e (kept_of s) ≡ result) × (new ≡ effect keepings e (kept_of s))
      → (answer histories e s ≡ result) × Stands new (effect histories e s)
  ended result h = (answer_kept e s ∙ h.0, h.1 ∙ sym (effect_kept e s))

  ends_well : (x : Applied) (out : Option ℕ) → EndsWell keepings (kept_of s) e x out (λ k. new ≡ k)
      → EndsWell histories s e x out (λ t. Stands new t)
  ends_well x None h = ended (Ok x) h
  ends_well x (Some moved) h = breaks_kept (moves_asked e) moved s new h

  ends : (result : Result Applied EventError) → Goes (kept_of s) e result new → Ends histories s e result (λ t. Stands new t)
  ends (Ok x) h = ends_well x (ran_out x) h
  ends (Err NoMemory) h = h
  ends (Err other) h = ended (Err other) h

pub happening : (old : Kept) (e : Event) (result : Result Applied EventError) (new : Kept) → Goes old e result new
    → Happens old e result new
happening old e result new h =
    record { to_each = λ s stands. ends e new s result (subst (λ (k : Kept). Goes k e result new) stands h) }

-- of what is seen of what is kept
pub happens_to : (inside old : Kept) (e : Event) (result : Result Applied EventError) (new : Kept) → inside ≡ old → Goes inside e result new
    → Happens old e result new
happens_to inside old e result new same h = subst (λ (k : Kept). Happens k e result new) same (happening inside e result new h)
