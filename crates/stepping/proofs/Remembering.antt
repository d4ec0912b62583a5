-- A tick adds to the past what retires in it, or takes away what it undoes.
use Rattle.stepping.proofs.Common.{[], Advances, ap, arith, Bool, Debugged, decoded_is_fetched, inl, inr, length, length-append, List, Lists, machine_of, Position, position_of, refl, Some, suc, sym, take, undone_by, zero, ℕ, ◌++◌, ◌+◌, ◌∙◌, ◌∷◌, ◌≡◌}
use Rattle.course.specs.Marks.{Retired}
use Rattle.stepping.specs.Past.{IsChanged, LoadedRemembersNone, Remembers, RemembersPast, TicksRemember}
use Rattle.course.proofs.Standing.{noted_stands, nothing_stands}
use Rattle.stepping.proofs.Advancing.{by_move}
use Rattle.stepping.proofs.Cases.{back_leaves, by_tick}

abbrev Left : Debugged → Debugged → List Retired → Type 0
Left before after retired = (left : List Retired) × (IsChanged before retired left × Remembers after left)

-- the breakpoints, and whether they are to be checked, are nothing to it
alike : (d after : Debugged) (lists : Lists) (due : Bool) (retired : List Retired) → after ≡ record d { lists = lists; check_due = due }
    → Remembers d retired → Remembers after retired
alike d after lists due retired e h = rw e (record { calls = h.calls; count = h.count; past = h.past })

-- of fewer moves
fewer : (n : ℕ) (past : List Position) (retired : List Retired) → RemembersPast past retired → RemembersPast (take n past) retired
fewer zero past retired h = tt
fewer (suc n) [] retired h = tt
fewer (suc n) (p ∷ past) retired h = (h.0, h.1, (h.2.0, h.2.1, fewer n past h.0 h.2.2, h.2.3))

-- an instruction retired
one_more : (before after : Debugged) (retired : List Retired) → Remembers before retired → Advances before after
    → Left before after retired
one_more before after retired h a =
    let last : Retired = record { instr = a.instr; pc = before.hart.pc } in
    let fetched = decoded_is_fetched (machine_of before.hart before.memory) (Some a.instr) a.decoded in
    let more : RemembersPast (position_of before ∷ before.past) (retired ++ last ∷ []) =
    (retired, last, (refl, h.calls, h.past, (refl, fetched))) in
    let left : Remembers after (retired ++ last ∷ []) = rw a.leaves (record {
      calls = noted_stands before.calls retired a.instr before.hart.pc h.calls;
      count = length-append retired (last ∷ []) ∙ ap (λ n. n + 1) h.count;
      past = fewer 65536 (position_of before ∷ before.past) (retired ++ last ∷ []) more;
    }) in
    (retired ++ last ∷ [], (inr (inl (a.instr, (fetched, refl))), left))

-- a move was undone
went_back : (past : List Position) (before after : Debugged) (retired : List Retired)
    → after ≡ record (undone_by past before) { lists = after.lists } → RemembersPast past retired → Remembers before retired
    → Left before after retired
went_back [] before after retired e p h = (retired, (inl refl, alike before after after.lists before.check_due retired e h))
went_back (b ∷ past) before after retired e p h =
    let one_less : length retired ≡ length p.0 + 1 = ap length p.2.0 ∙ length-append p.0 (p.1 ∷ []) in
    let left = alike (undone_by (b ∷ past) before) after after.lists before.check_due p.0 e
    (record { calls = p.2.1; count = omega (arith, one_less, h.count); past = p.2.2 }) in
    (p.0, (inr (inr (p.1, p.2.0)), left))

pub ticks_remember : TicksRemember
ticks_remember before after answer retired h t =
    by_tick before after answer t (λ due x. (retired, (inl refl, alike before after _ _ retired x.1 h)))
    (λ due turns x. went_back before.past before after retired (back_leaves before after answer x) h.past h)
    (λ due forward m. by_move before after answer (one_more before after retired h)
    (λ e. (retired, (inl refl, alike before after _ before.check_due retired e h))) m)

pub loaded_remembers : LoadedRemembersNone
loaded_remembers image size lists d h = record { calls = rw h.calls nothing_stands; count = sym h.retired; past = rw h.past tt }
