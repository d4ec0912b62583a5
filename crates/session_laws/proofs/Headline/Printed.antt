-- What is printed, and what a logpoint says, is told while the program runs: only what is owed is told so, and a program
-- that owes something runs.
use Rattle.session_laws.proofs.Headline.Common.{Beginning, Happened, life_of, List, nothing_known, Reached, remembered, WhatIsPrintedRuns}
use Rattle.session_laws.proofs.Headline.Remembering.{all_print}
use Rattle.session_laws.proofs.Headline.Truth.{held_on}

pub what_is_printed_runs : (from : Beginning) (events : List Happened) → WhatIsPrintedRuns (Reached from events)
what_is_printed_runs from events c =
    let life = life_of c (Reached from events) in
    all_print (remembered life.heard) nothing_known life.said (held_on from events c)
