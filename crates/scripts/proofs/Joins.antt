-- Joined events are the same events.
use Rattle.scripts.proofs.Common.{[], ap, AreJoined, arith, Bool, Connect, DropConnection, false, Hold, if◌then◌else◌, inl, inr, joined, List, nat_lt, None, Option, Recv, refl, Sent, Slice, slice_of, Some, Step, true, Turn, waiting_of, written_of, ℕ, ◌++◌, ◌+◌, ◌^◌, ◌∙◌, ◌∷◌, ◌≡◌}

-- two slices, in place of one of all their moves
parted : (a n : ℕ) (steps lines : List Step) → AreJoined (Slice (a + n) ∷ steps) lines → AreJoined (Slice a ∷ Slice n ∷ steps) lines
parted a n steps [] h = absurd h
parted a n steps (line ∷ lines) (inl h) = inr (a, n, refl, h.0, inl (refl, h.1))
parted a n steps (line ∷ lines) (inr h) =
    let whole : Slice (a + n) ≡ Slice h.0 = h.2 in
    let same : a + n ≡ h.0 = cc in
    let sum : h.0 + h.1 ≡ a + (n + h.1) = omega (arith, same) in
    inr (a, n + h.1, refl, h.3 ∙ ap Slice sum, inr (n, h.1, refl, refl, h.4))

-- an event that is no slice, after a slice that waits
alone : (waiting : Option ℕ) (step : Step) (steps : List Step) → AreJoined steps (joined steps)
    → AreJoined (slice_of waiting ++ step ∷ steps)
    (((slice_of waiting ++ step ∷ []) ++ written_of None steps) ++ slice_of (waiting_of None steps))
alone None step steps h = inl (refl, h)
alone (Some before) step steps h = inl (refl, inl (refl, h))

joined_after : (waiting : Option ℕ) (steps : List Step)
    → AreJoined (slice_of waiting ++ steps) (written_of waiting steps ++ slice_of (waiting_of waiting steps))
joined_after None [] = refl
joined_after (Some before) [] = inl (refl, refl)
joined_after None (Slice moves ∷ steps) = joined_after (Some moves) steps
joined_after (Some before) (Slice moves ∷ steps) =
    let P : Bool → Type 0 = λ t. AreJoined (Slice before ∷ Slice moves ∷ steps)
    (((if t then [] else Slice before ∷ []) ++ written_of (if t then Some (before + moves) else Some moves) steps)
    ++ slice_of (waiting_of (if t then Some (before + moves) else Some moves) steps)) in
    let go : P (nat_lt (before + moves) (2 ^ 32)) = elim (nat_lt (before + moves) (2 ^ 32)) as P [
      | true ↦ parted before moves steps _ (joined_after (Some (before + moves)) steps)
      | false ↦ inl (refl, joined_after (Some moves) steps)
    ] in go
joined_after waiting (Connect ∷ steps) = alone waiting Connect steps (joined_after None steps)
joined_after waiting (Recv piece ∷ steps) = alone waiting (Recv piece) steps (joined_after None steps)
joined_after waiting (Turn path ∷ steps) = alone waiting (Turn path) steps (joined_after None steps)
joined_after waiting (Hold ∷ steps) = alone waiting Hold steps (joined_after None steps)
joined_after waiting (Sent count ∷ steps) = alone waiting (Sent count) steps (joined_after None steps)
joined_after waiting (DropConnection ∷ steps) = alone waiting DropConnection steps (joined_after None steps)

pub joined_same : (steps : List Step) → AreJoined steps (joined steps)
joined_same steps = joined_after None steps
