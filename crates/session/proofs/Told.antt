-- What a beat tells is written first, and numbered at once.
use Rattle.session.proofs.Common.{[], ap, append-nil, arith, Become, Bool, concluded, concludes, Debuggee, draft_told, drafted, Drafted, drafted_all, Ended, ended, exit_events, false, halts, is_active, IsEvent, keepings, keeps, Kept, Limits, Link, List, log_event, logged, map, Message, Option, Outcome, outcome_events, output_events, Pending, performed, printed_events, Program, refl, said_on, Some, stays, stop_event, stopped, Stopped, sym, Tell, telling, Tick, tick_events, told, true, true≢false, Went, Why, ℕ, ◌++◌, ◌∙◌, ◌∷◌, ◌≡◌}
use Rattle.debuggee.specs.declared.run.Why.TheVariants as why
use Rattle.replies.specs.declared.event.Event.{Event}
use Rattle.std.proofs.lemmas.List.{map-append}
use Rattle.session.proofs.Drafting.{performed_append, settling, tells_if, tells_told}

abbrev pub debugging : Debuggee → Kept → Kept
debugging d k = record k { now = record k.now { debuggee = d } }

-- the program, as it is kept
abbrev pub with_one : Program → Kept → Kept
with_one p k = debugging (record k.now.debuggee { program = Some p }) k

-- it is all the same when the program changes
said_before : (l : Option Link) (m : Message) (rest : List Pending) (d : Debuggee) (k : Kept)
    → debugging d (keeps (said_on l m rest) k) ≡ keeps (said_on l m rest) (debugging d k)
said_before l m rest d k = grind arith

all_before : (events : List Event) (d : Debuggee) (k : Kept)
    → debugging d (performed keepings (map Tell events) k) ≡ performed keepings (map Tell events) (debugging d k)
all_before [] d k = refl
all_before (e ∷ es) d k =
    all_before es d (keeps (said_on k.now.link (IsEvent e) k.now.arrivals.pending) k) ∙ ap (performed keepings (map Tell es))
    (said_before k.now.link (IsEvent e) k.now.arrivals.pending d k)

-- events, a change, and more events
told_twice : (b : Bool) (first more : List Event) (d : Debuggee) (k : Kept) →
    performed keepings (tells_if b first ++ Become d ∷ tells_if b more) k ≡ performed keepings (tells_if b (first ++ more)) (debugging d k)
told_twice true first more d k =
    performed_append (map Tell first) (Become d ∷ map Tell more) k
    ∙ ap (performed keepings (map Tell more)) (all_before first d k)
    ∙ sym (performed_append (map Tell first) (map Tell more) (debugging d k))
    ∙ sym (ap (λ acts. performed keepings acts (debugging d k)) (map-append Tell first more))
told_twice false first more d k = refl

-- ---- the acts of a beat

pub stop_tells : (k : Kept) (p : Program) (reason : Why) (ids : List ℕ)
    → performed keepings (halts k.now p reason ids) k ≡ settling k.now.link k.now.arrivals.pending (draft_told k.now.limits k.now.link (stop_event reason ids ∷ [])) (with_one (stopped reason p) k)
stop_tells k p reason ids = tells_told (stop_event reason ids ∷ []) (with_one (stopped reason p) k)

-- what comes next, where it stays
pub end_tells : (k : Kept) (p : Program) (outcome : Outcome) → stays outcome ≡ true
    → performed keepings (concludes k.now p outcome []) k ≡ settling k.now.link k.now.arrivals.pending (draft_told k.now.limits k.now.link (outcome_events outcome [])) (with_one (concluded outcome p) k)
end_tells k p Went e = absurd (true≢false (sym e))
end_tells k p (Stopped reason) e = tells_told (stop_event (why.Met reason) [] ∷ []) (with_one (stopped (why.Met reason) p) k)
end_tells k p (Ended code) e = tells_told (exit_events code) (with_one (ended (Some code) p) k)

by_outcome : (k : Kept) (p : Program) (output : List Event) (outcome : Outcome) (ids : List ℕ) →
    performed keepings (tells_if (is_active k.now.link) output ++ concludes k.now p outcome ids) (with_one p k)
    ≡ performed keepings (tells_if (is_active k.now.link) (output ++ outcome_events outcome ids)) (with_one (concluded outcome p) k)
by_outcome k p output Went ids = simp append-nil
by_outcome k p output (Stopped reason) ids =
    told_twice (is_active k.now.link) output (stop_event (why.Met reason) ids ∷ [])
    (record k.now.debuggee { program = Some (stopped (why.Met reason) p) }) (with_one p k)
by_outcome k p output (Ended code) ids =
    told_twice (is_active k.now.link) output (exit_events code) (record k.now.debuggee { program = Some (ended (Some code) p) })
    (with_one p k)

pub tick_tells : (k : Kept) (p : Program) (tick : Tick)
    → performed keepings (telling k.now p tick) k ≡ settling k.now.link k.now.arrivals.pending (draft_told k.now.limits k.now.link (tick_events tick (logged p.machine.lists) p.machine.lists.ids)) (with_one (concluded tick.outcome (told p)) k)
tick_tells k p tick =
    by_outcome k (told p) (output_events tick.printed (logged p.machine.lists)) tick.outcome p.machine.lists.ids
    ∙ tells_told (tick_events tick (logged p.machine.lists) p.machine.lists.ids) (with_one (concluded tick.outcome (told p)) k)

-- a draft of events, and of others after them
drafts_join : (limits : Limits) (first more : List Event) (d : Drafted)
    → drafted_all limits (first ++ more) d ≡ drafted_all limits more (drafted_all limits first d)
drafts_join limits [] more d = refl
drafts_join limits (e ∷ es) more d = drafts_join limits es more (drafted limits (IsEvent e) d)

-- what was printed, what logpoints say and the outcome, one after the other, are what is told of a tick
pub adds_tick : (limits : Limits) (tick : Tick) (texts : List (List ℕ)) (ids : List ℕ) (d : Drafted)
    → drafted_all limits (tick_events tick texts ids) d
    ≡ drafted_all limits (outcome_events tick.outcome ids)
    (drafted_all limits (map log_event texts) (drafted_all limits (printed_events tick.printed) d))
adds_tick limits tick texts ids d =
    drafts_join limits (output_events tick.printed texts) (outcome_events tick.outcome ids) d
    ∙ ap (drafted_all limits (outcome_events tick.outcome ids)) (drafts_join limits (printed_events tick.printed) (map log_event texts) d)

-- what is drafted has bytes only where an editor is told
pub told_somebody : (limits : Limits) (link : Option Link) (events : List Event) (d : Drafted) → d ≡ draft_told limits link events
    → (d.bytes ≡ [] → ⊥) → is_active link ≡ true
told_somebody limits link events d e some = grind arith

pub told_where_some : (active : Bool) (bytes : List ℕ) → (active ≡ false → bytes ≡ []) → (bytes ≡ [] → ⊥) → active ≡ true
told_where_some active bytes none some = grind arith
