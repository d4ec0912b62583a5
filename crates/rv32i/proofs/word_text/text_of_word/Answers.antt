use Rattle.rv32i.proofs.Common.{Coded, Err, IfOk, Ok, Result}

if_ok-map : {A E : Type 0} {P Q : A → Type 0} (r : Result A E) → ((a : A) → P a → Q a) → IfOk r P → IfOk r Q
if_ok-map (Ok a) f h = f a h
if_ok-map (Err e) f h = tt

pub returns-in-Some : Rattle.rv32i.proofs.word_text.text_of_word.Goals.returns-in-Some
returns-in-Some c = if_ok-map c.text_of.result (λ text has. Coded c.in-Some.instr c.in-Some.ensures has) c.text_of.ensures
