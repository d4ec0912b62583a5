use Rattle.stepping.proofs.Leading.{back_and_forth, moves_from_oldest, one_less, ticks_lead}

pub returns : Rattle.stepping.proofs.laws.past_leads_here.Goals.returns
returns c = record { ticks = ticks_lead; oldest = moves_from_oldest; less = one_less; again = back_and_forth }
