-- What an unframer is after it has lent a body.
use Rattle.std.specs.Prelude.{◌≡◌, ⊤}
use Rattle.std.specs.Borrow.{MutBor, Fml, follows_so}
use mathlib.Core.Option.{none}
use Rattle.framing.specs.Streams.{Unframed, lent_from}
use Rattle.framing.specs.contracts.state.State.{the_row}
use Rattle.framing.specs.contracts.unframer.Unframer.{the_row as unframer_row}

-- the first body that waits does not wait any more
abbrev pub Leaves : MutBor Unframed → Fml
Leaves s = follows_so unframer_row unframer_row s.ghost_name none (λ _ _. ⊤) (λ new. new ≡ lent_from s.now)

-- the same of the struct inside, for private clauses alone
abbrev pub LeavesState : MutBor Unframed → Fml
LeavesState s = follows_so the_row the_row s.ghost_name none (λ _ _. ⊤) (λ new. new ≡ lent_from s.now)
