-- Requests that join those that wait: none is lost, and they stand in their order.
use Rattle.session_laws.proofs.Common.{[], all_joined, ap, append-nil, append_assoc, Arrivals, Ask, cancelled_by, cancels, if_keeps, is_above, is_named, joined, List, map, map-append, None, number_of, Option, Pending, pending_with, refl, Some, sym, ℤ, ◌++◌, ◌∙◌, ◌∷◌, ◌≡◌}
use Rattle.queues.specs.declared.pending.Fate.TheVariants.{Waits, Repeated}

-- what is seen of the requests that wait, by what is seen of one
abbrev pub seen_as : {X : Type 0} → (Ask → X) → List Pending → List X
seen_as f pending = map (λ p. f p.ask) pending

same_asks : {X : Type 0} (f : Ask → X) (id : ℤ) (pending : List Pending) → seen_as f (map (cancelled_by id) pending) ≡ seen_as f pending
same_asks f id [] = refl
same_asks f id (p ∷ pending) =
    ap (λ x. x ∷ seen_as f (map (cancelled_by id) pending)) (if_keeps (λ (q : Pending). f q.ask ≡ f p.ask) (is_named id p) _ _ (λ _. refl) (λ _. refl))
    ∙ ap (λ l. f p.ask ∷ l) (same_asks f id pending)

seen_as-append : {X : Type 0} (f : Ask → X) (xs ys : List Pending) → seen_as f (xs ++ ys) ≡ seen_as f xs ++ seen_as f ys
seen_as-append f xs ys = map-append (λ (p : Pending). f p.ask) xs ys

pending_with_as : {X : Type 0} (f : Ask → X) (id : Option ℤ) (pending : List Pending) (ask : Ask)
    → seen_as f (pending_with id pending ask) ≡ seen_as f pending ++ f ask ∷ []
pending_with_as f None pending ask = seen_as-append f pending (record { ask = ask; fate = Waits } ∷ [])
pending_with_as f (Some id) pending ask =
    seen_as-append f (map (cancelled_by id) pending) _ ∙ ap (λ l. l ++ f ask ∷ []) (same_asks f id pending)

joined_as : {X : Type 0} (f : Ask → X) (came : Arrivals) (ask : Ask)
    → seen_as f (joined came ask).pending ≡ seen_as f came.pending ++ f ask ∷ []
joined_as f came ask =
    if_keeps (λ (a : Arrivals). seen_as f a.pending ≡ seen_as f came.pending ++ f ask ∷ []) (is_above came.highest (number_of ask)) _ _
    (λ _. pending_with_as f (cancels ask) came.pending ask)
    (λ _. seen_as-append f came.pending (record { ask = ask; fate = Repeated } ∷ []))

pub all_joined_as : {X : Type 0} (f : Ask → X) (asks : List Ask) (came : Arrivals)
    → seen_as f (all_joined came asks).pending ≡ seen_as f came.pending ++ map f asks
all_joined_as f [] came = sym (append-nil (seen_as f came.pending))
all_joined_as f (ask ∷ asks) came =
    all_joined_as f asks (joined came ask) ∙ ap (λ l. l ++ map f asks) (joined_as f came ask) ∙ append_assoc (seen_as f came.pending)
    (f ask ∷ []) (map f asks)
