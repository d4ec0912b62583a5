-- The events of steps, one after the other.
use Rattle.watch_command.proofs.Common.{[], ap, append-nil, append_assoc, AreEvents, Event, event_of, FileRead, HasEvent, HasEvents, KnownReads, List, None, Option, path_in, Records, refl, Some, Step, subst, sym, ℕ, ◌++◌, ◌∙◌, ◌∷◌, ◌≡◌}
use Rattle.transport.specs.Rounds.{read_for}

-- no step, and no read
records_none : (known : KnownReads) → Records known known []
records_none None = tt
records_none (Some past) = sym (append-nil past)

pub none_yet : (known : KnownReads) → HasEvents [] known known []
none_yet known = ([], (records_none known, (refl, refl)))

-- reads, and then others
records_then : (a b c : KnownReads) (xs ys : List FileRead) → Records a b xs → Records b c ys → Records a c (xs ++ ys)
records_then None b c xs ys h k = tt
records_then (Some past) None c xs ys h k = absurd h
records_then (Some past) (Some now) None xs ys h k = absurd k
records_then (Some past) (Some now) (Some new) xs ys h k =
    k ∙ ap (λ (l : List FileRead). l ++ ys) h ∙ append_assoc past xs ys

one_event : (s : Step) (file : Option (List ℕ)) (event : Event) → event ≡ event_of s file
    → AreEvents (s ∷ []) (read_for (path_in s) file) (event ∷ [])
one_event s file event is =
    (file, [], [], (sym (append-nil (read_for (path_in s) file)), (ap (λ (e : Event). e ∷ []) is, (refl, refl))))

one_more : (steps : List Step) (reads : List FileRead) (events : List Event) (s : Step) (file : Option (List ℕ)) (event : Event)
    → event ≡ event_of s file → AreEvents steps reads events
    → AreEvents (steps ++ s ∷ []) (reads ++ read_for (path_in s) file) (events ++ event ∷ [])
one_more [] reads events s file event is h =
    subst (λ (l : List FileRead). AreEvents (s ∷ []) (l ++ read_for (path_in s) file) (events ++ event ∷ [])) (sym h.0)
    (subst (λ (l : List Event). AreEvents (s ∷ []) (read_for (path_in s) file) (l ++ event ∷ [])) (sym h.1) (one_event s file event is))
one_more (x ∷ steps) reads events s file event is h =
    let rest = one_more steps h.1 h.2 s file event is h.3.1.1 in (
      h.0,
      h.1 ++ read_for (path_in s) file,
      h.2 ++ event ∷ [],
      (
        ap (λ (l : List FileRead). l ++ read_for (path_in s) file) h.3.0
            ∙ append_assoc (read_for (path_in x) h.0) h.1 (read_for (path_in s) file),
        (ap (λ (l : List Event). l ++ event ∷ []) h.3.1.0, rest),
      ),
    )

pub next_event : (steps : List Step) (s : Step) (a b c : KnownReads) (events : List Event) (event : Event) → HasEvents steps a b events
    → HasEvent s b c event → HasEvents (steps ++ s ∷ []) a c (events ++ event ∷ [])
next_event steps s a b c events event h one = (
  h.0 ++ read_for (path_in s) one.0,
  (records_then a b c h.0 (read_for (path_in s) one.0) h.1.0 one.1.0, one_more steps h.0 events s one.0 event one.1.1 h.1.1),
)
