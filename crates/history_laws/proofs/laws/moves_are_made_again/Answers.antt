use Rattle.history_laws.proofs.Again.{back_and_forth_again, moves_are_made, moves_are_undone}

pub returns : Rattle.history_laws.proofs.laws.moves_are_made_again.Goals.returns
returns c = record { made = moves_are_made; undone = moves_are_undone; again = back_and_forth_again }
