use Rattle.message_parts.proofs.Common.{[], List, MembersHaveSmallNumbers, ℕ, ◌∷◌}
use Rattle.message_parts.specs.Initialize.{all_true, capabilities}
use Rattle.message_parts.proofs.Appending.{object_written}

-- there is no number in it
small : (names : List (List ℕ)) → MembersHaveSmallNumbers (all_true names)
small [] = tt
small (name ∷ names) = (tt, small names)

pub returns : Rattle.message_parts.proofs.initialize.body.Goals.returns
returns c =
    object_written c.end_object.result c.in_ok-begin_object.ensures
    (record { appends = c.in_ok-all_true.ensures; small = small capabilities }) c.end_object.ensures
