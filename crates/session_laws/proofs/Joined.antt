-- Two slices, one after the other, leave what one of all their moves leaves.
use Rattle.session_laws.proofs.Common.{[], Act, after_all, after_beat, Agree, AnEvent, Answering, answering, ap, append-nil, arith, Beat, beat, beat_of, beats, beats_on, Become, becomes, Bool, CameTo as Outcome, closing, concluded, concludes, Debuggee, each_ends, Effect, ended, Ended, ending_of, ends, enough, exit_events, exits, false, Follows, from_here, halts, histories, if_keeps, inl, inr, is_active, is_running, is_sliced, joined, List, logged, ltb, map, Met, nat_tests, next_beat, next_by, None, Now, Option, output_events, performed, performed_append, performed_on, Program, Refer, refl, Reply, Seen, Session, Slice, sliced, SliceEnd, SlicesEnd, SlicesJoin, Slicing, Some, stays_ended, stop_event, Stopped, stopped, stops, subst, suc, sym, Tell, telling, tells, Tick, Told, told, true, Went, Why, with_beat, zero, ℕ, ℤ, ◌++◌, ◌+◌, ◌∙◌, ◌∷◌, ◌≡◌, ◌≤◌, ◌⊎◌}
use Rattle.session.specs.declared.event.SliceEnd.TheVariants as ending
use Rattle.session_laws.proofs.Cases.{by_beat, by_slicing, ends_with, EndsFor, tells_tick}
use Rattle.session_laws.specs.Joining.{JoinedLeadToTheSame}

-- ---- what changes no program

-- none of these acts makes another program
unfoldable pub NoneBecome : List Act → Type 0
NoneBecome [] = Unit {0}
NoneBecome (Become d ∷ acts) = ⊥
NoneBecome (act ∷ acts) = NoneBecome acts

told_only : (events : List Told) (acts : List Act) → NoneBecome acts → NoneBecome (map Tell events ++ acts)
unfolding NoneBecome
told_only [] acts h = h
told_only (e ∷ es) acts h = told_only es acts h

pub tells_only : (now : Now) (events : List Told) → NoneBecome (tells now events)
unfolding NoneBecome
tells_only now events =
    if_keeps NoneBecome (is_active now.link) _ []
    (λ _. subst NoneBecome (append-nil (map Tell events)) (told_only events [] tt)) (λ _. tt)

abbrev Same : Session → Session → Type 0
Same s t = t.now.debuggee ≡ s.now.debuggee

act_same : (act : Act) (s : Session) → NoneBecome (act ∷ []) → Same s (performed_on act s)
unfolding NoneBecome
act_same act s h = grind arith

pub same_debuggee : (acts : List Act) (s : Session) → NoneBecome acts → (performed histories acts s).now.debuggee ≡ s.now.debuggee
unfolding NoneBecome
same_debuggee [] s h = refl
same_debuggee (Become d ∷ acts) s h = absurd h
same_debuggee (act ∷ acts) s h = same_debuggee acts (performed_on act s) h ∙ act_same act s tt

pub answering_debuggee : (a : Answering) (s : Session) → (performed histories (answering a) s).now.debuggee ≡ a.debuggee
unfolding NoneBecome
answering_debuggee a s =
    same_debuggee (Refer a.references ∷ Agree a.terms ∷ Reply a.outcome ∷ (map Tell a.events ++ closing a.closes))
    (performed_on (Become a.debuggee) s)
    (told_only a.events (closing a.closes) (elim a.closes as (λ closes. NoneBecome (closing closes)) [ true ↦ tt | false ↦ tt ]))

abbrev pub program_of : Session → Option Program
program_of s = s.now.debuggee.program

-- what holds of the program holds after such acts
pub still_holds : (P : Option Program → Type 0) (acts : List Act) (s : Session) → NoneBecome acts → P (program_of s)
    → P (program_of (performed histories acts s))
still_holds P acts s none h = subst (λ (d : Debuggee). P d.program) (sym (same_debuggee acts s none)) h

-- a program becomes this, and then something is told
pub becomes_program : (now : Now) (p : Program) (acts : List Act) (s : Session) → NoneBecome acts
    → program_of (performed histories (becomes now p ∷ acts) s) ≡ Some p
becomes_program now p acts s h = ap (λ (d : Debuggee). d.program) (same_debuggee acts (performed_on (becomes now p) s) h)

-- ---- what a tick that is told leaves, a stop and an end

pub halts_program : (now : Now) (p : Program) (reason : Why) (ids : List ℕ) (s : Session)
    → program_of (performed histories (halts now p reason ids) s) ≡ Some (stopped reason p)
halts_program now p reason ids s =
    becomes_program now (stopped reason p) (tells now (stop_event reason ids ∷ [])) s (tells_only now (stop_event reason ids ∷ []))

pub exits_program : (now : Now) (p : Program) (code : ℤ) (s : Session)
    → program_of (performed histories (exits now p code) s) ≡ Some (ended (Some code) p)
exits_program now p code s =
    becomes_program now (ended (Some code) p) (tells now (exit_events code)) s (tells_only now (exit_events code))

-- the program after what concludes, where it was this
concludes_program : (now : Now) (p : Program) (outcome : Outcome) (ids : List ℕ) (s : Session) → program_of s ≡ Some p
    → program_of (performed histories (concludes now p outcome ids) s) ≡ Some (concluded outcome p)
concludes_program now p outcome ids s e = grind (arith, halts_program, exits_program)

pub telling_program : (now : Now) (p : Program) (tick : Tick) (s : Session)
    → program_of (performed histories (telling now p tick) s) ≡ Some (concluded tick.outcome (told p))
telling_program now p tick s =
    let t : Session = performed_on (becomes now (told p)) s in
    let output : List Told = output_events tick.printed (logged p.machine.lists) in
    let acts : List Act = concludes now (told p) tick.outcome p.machine.lists.ids in
    ap program_of (performed_append (tells now output) acts t)
    ∙ concludes_program now (told p) tick.outcome p.machine.lists.ids (performed histories (tells now output) t)
    (ap (λ (d : Debuggee). d.program) (same_debuggee (tells now output) t (tells_only now output)))

-- ---- one beat

-- Whether a slice has more moves to make matters to a beat only where it would end the slice.
abbrev Alike : Beat → Beat → Type 0
Alike more less = (less ≡ more) ⊎ (less ≡ ends ending.Spent)

program_alike : (program : Option Program) (seen : Seen) → Alike (beat_of program seen true) (beat_of program seen false)
program_alike program seen = grind arith

-- How far a beat moves, and how it can end: without more moves it makes none, and says Spent only then.
pub record Bounded (more : Bool) (b : Beat) : Type 0 where
  pub few : b.moved ≤ 1
  pub none : more ≡ false → b.moved ≡ 0
  pub spent : b.ending ≡ Some ending.Spent → more ≡ false
  pub still : b.ending ≡ Some ending.Spent → b.acts ≡ []

pub bounded : (seen : Seen) (more : Bool) → Bounded more (beat seen more)
bounded seen more = record { few = grind arith; none = λ e. grind arith; spent = λ e. grind arith; still = λ e. grind arith }

-- ---- after an end each beat ends at once

abbrev pub Still : Session → Type 0
Still s = (more : Bool) → (e : SliceEnd) × (beat (histories.see s) more ≡ ends e)

still_as : (s : Session) (program : Option Program) → program_of s ≡ program
    → ((more : Bool) → (e : SliceEnd) × (beat_of program (histories.see s) more ≡ ends e)) → Still s
still_as s program is h more = let x = h more in (x.0, ap (λ (p : Option Program). beat_of p (histories.see s) more) is ∙ x.1)

stands : (s : Session) (q : Program) → program_of s ≡ Some q → q.owed ≡ None → is_running q.run ≡ false → Still s
stands s q is owes rests = still_as s (Some q) is (λ more. (ending.Idle, grind arith))

-- what a beat leaves that ends otherwise than for want of moves
EndsStill : Session → Beat → Type 0
EndsStill s b = (e : SliceEnd) → b.ending ≡ Some e → (e ≡ ending.Spent → ⊥) → Still (after_beat histories b s)

-- a beat that leaves this
leaves_still : (s : Session) (b : Beat) (q : Program) → program_of (performed histories b.acts s) ≡ Some q → q.owed ≡ None
    → is_running q.run ≡ false → EndsStill s b
unfolding EndsStill
leaves_still s b q is owes rests e ends never = stands (performed histories b.acts s) q is owes rests

concluded_still : (s : Session) (b : Beat) (p : Program) (outcome : Outcome) → program_of (performed histories b.acts s) ≡ Some (concluded outcome p)
    → p.owed ≡ None → b.ending ≡ ending_of outcome → EndsStill s b
unfolding EndsStill
concluded_still s b p Went is owes same e ends never = absurd (cc)
concluded_still s b p (Stopped reason) is owes same e ends never =
    stands (performed histories b.acts s) (stopped (Met reason) p) is owes refl
concluded_still s b p (Ended code) is owes same e ends never = stands (performed histories b.acts s) (ended (Some code) p) is owes refl

-- nothing was done, and nothing will be
idle_still : (s : Session) (p : Program) (more : Bool) (end : SliceEnd) → program_of s ≡ Some p → p.owed ≡ None
    → EndsFor (histories.see s) p more end → EndsStill s (ends end)
unfolding EndsStill
idle_still s p more ending.Idle is owes idle e ends never = still_as s (Some p) is (λ again. (ending.Idle, grind arith))
idle_still s p more ending.Full is owes full e ends never = still_as s (Some p) is (λ again. (ending.Full, grind arith))
idle_still s p more ending.Spent is owes spent e ends never = absurd (never (let same : Some ending.Spent ≡ Some e = ends in cc))
idle_still s p more other is owes why e ends never = absurd why

beat_still : (s : Session) (more : Bool) → EndsStill s (beat (histories.see s) more)
unfolding EndsStill
beat_still s more = by_beat (program_of s) (histories.see s) more (EndsStill s)
    (λ none _ _ _. still_as s None none (λ again. (ending.Idle, refl)))
    (λ p is. record {
      tells = λ tick _. concluded_still s (tells_tick s.now p tick) (told p) tick.outcome (telling_program s.now p tick s) refl refl;
      ends_for = λ e owes why. idle_still s p more e is owes why;
      stops_for = λ w owes _. leaves_still s (stops s.now p w) (stopped w p) (halts_program s.now p w [] s) owes refl;
      exits_with = λ code owes _ _. leaves_still s (ends_with s.now p code) (ended (Some code) p) (exits_program s.now p code s) owes refl;
      enters = λ _ _ _ e ends never. absurd (cc);
      moves = λ _ _ _ _ _ e ends never. absurd (cc);
    })

-- ---- how many moves a slice makes

few_more : (m k n : ℕ) → k ≤ 1 → (ltb m n ≡ false → k ≡ 0) → m ≤ n → m + k ≤ n
few_more m k n one none h = grind (arith, nat_tests)

moved_few : (n i : ℕ) (s : Session) → (beats histories n i s).moved ≤ n
moved_few n i s =
    by_slicing n (λ d. d.moved ≤ n)
    (λ d _ h. let b = bounded (histories.see d.state) (ltb d.moved n) in few_more d.moved _ n b.few b.none h) i s (omega arith)

-- ---- what the last beat left

-- a slice that has ended for want of moves made them all, and would end so again; after another end each beat ends
pub record AtEnd (n : ℕ) (d : Slicing Session) : Type 0 where
  pub spent : d.ending ≡ Some ending.Spent → (n ≤ d.moved) × (beat (histories.see d.state) false ≡ ends ending.Spent)
  pub still : (e : SliceEnd) → d.ending ≡ Some e → (e ≡ ending.Spent → ⊥) → Still d.state

spent_again : (s : Session) (more : Bool) → (beat (histories.see s) more).ending ≡ Some ending.Spent
    → beat (histories.see (after_beat histories (beat (histories.see s) more) s)) false ≡ ends ending.Spent
spent_again s more e =
    let limits = bounded (histories.see s) more in
    grind (arith, limits.spent e, limits.still e, limits.none (limits.spent e))

pub at_end : (n i : ℕ) (s : Session) → AtEnd n (beats histories n i s)
unfolding EndsStill
at_end n i s = by_slicing n (AtEnd n) (λ d _ _. record {
  spent = λ e. (
    let less = (bounded (histories.see d.state) (ltb d.moved n)).spent e in let full : n ≤ d.moved = grind (arith, nat_tests) in omega
        (arith, full),
    spent_again d.state (ltb d.moved n) e,
  );
  still = beat_still d.state (ltb d.moved n);
}) i s (record { spent = λ e. absurd (cc); still = λ e is never. absurd (cc) })

-- ---- each slice ends

pub histories_follow : Follows histories
unfolding NoneBecome
histories_follow = record { becomes = λ now q s. becomes_program now q [] s tt; tells = λ s p tick. telling_program s.now p tick s }

-- ---- two slices beside the whole

going : Session → ℕ → Slicing Session
going x m = record { state = x; moved = m; ending = None }

abbrev ended_here : Slicing Session → Slicing Session
ended_here d = record { state = d.state; moved = d.moved; ending = Some ending.Spent }

-- the whole makes the same beat as the first slice, or that ends for want of moves
abbrev Fork : ℕ → Slicing Session → Option SliceEnd → Slicing Session → Slicing Session → Type 0
Fork a d e whole first = (whole ≡ first) ⊎ ((e ≡ None) × ((d.moved ≡ a) × (first ≡ ended_here d)))

fork : (a b : ℕ) (d : Slicing Session) (e : Option SliceEnd) → d.moved ≤ a
    → Fork a d e (next_by histories (a + b) e d) (next_by histories a e d)
fork a b d (Some x) least = inl refl
fork a b d None least = grind (arith, nat_tests, program_alike d.state.now.debuggee.program (histories.see d.state))

-- the first slice has ended for want of moves, and the whole continued from there
record Split (a b : ℕ) (s : Session) (d : Slicing Session) : Type 0 where
  ended : d.ending ≡ Some ending.Spent
  full : d.moved ≡ a
  at : ℕ
  there : beats histories (a + b) at s ≡ going d.state d.moved

abbrev Beside : ℕ → ℕ → Session → ℕ → Type 0
Beside a b s i = (beats histories (a + b) i s ≡ beats histories a i s) ⊎ Split a b s (beats histories a i s)

beside : (a b : ℕ) (s : Session) (i : ℕ) → Beside a b s i
unfolding going
beside a b s zero = inl refl
beside a b s (suc i) = next (beside a b s i) where
  d : Slicing Session
  d = beats histories a i s

  forked : beats histories (a + b) i s ≡ d → Fork a d d.ending (next_by histories (a + b) d.ending d) (next_by histories a d.ending d)
      → Beside a b s (suc i)
  forked same (inl f) = inl (ap (next_beat histories (a + b)) same ∙ f)
  forked same (inr f) =
      let there = same ∙ (λ j. record { state = d.state; moved = d.moved; ending = f.0 j }) in
      inr (subst (Split a b s) (sym f.1.1) (record { ended = refl; full = f.1.0; at = i; there = there }))

  next : Beside a b s i → Beside a b s (suc i)
  next (inl same) = forked same (fork a b d d.ending (moved_few a i s))
  next (inr h) = inr (subst (Split a b s) (sym (ap (λ (e : Option SliceEnd). next_by histories a e d) h.ended)) h)

-- ---- the second slice is what the whole has left

shifted : ℕ → Slicing Session → Slicing Session
shifted a d = record { state = d.state; moved = a + d.moved; ending = d.ending }

next_shifted : (a b : ℕ) (d : Slicing Session) (e : Option SliceEnd) → d.ending ≡ e
    → next_by histories (a + b) e (shifted a d) ≡ shifted a (next_by histories b e d)
unfolding shifted
next_shifted a b d (Some x) is = refl
next_shifted a b d None is = grind (arith, nat_tests)

whole_shifted : (a b k : ℕ) (x : Session) → beats_on histories (a + b) k (going x a) ≡ shifted a (beats histories b k x)
unfolding going shifted
whole_shifted a b zero x = let none : a ≡ a + 0 = omega arith in λ i. record { state = x; moved = none i; ending = None }
whole_shifted a b (suc k) x =
    ap (next_beat histories (a + b)) (whole_shifted a b k x) ∙ next_shifted a b (beats histories b k x) (beats histories b k x).ending refl

beats_after : (n j i : ℕ) (d : Slicing Session) → beats_on histories n (j + i) d ≡ beats_on histories n i (beats_on histories n j d)
beats_after n j zero d = grind arith
beats_after n j (suc i) d = let e : j + suc i ≡ suc (j + i) = omega arith in rw e (ap (next_beat histories n) (beats_after n j i d))

-- ---- so they join

-- a slice that ends at once
pub at_once : (b : ℕ) (x : Session) (e : SliceEnd) → beat (histories.see x) (ltb 0 b) ≡ ends e
    → sliced histories b x ≡ record { state = x; moved = 0; ending = Some e }
at_once b x e is =
    let one : beats histories b 1 x ≡ record { state = x; moved = 0; ending = Some e } = ap
    (λ (y : Beat). with_beat histories y (from_here x)) is in
    sym (is_sliced histories histories_follow b 1 x e (ap (λ (d : Slicing Session). d.ending) one)) ∙ one

-- both leave the same, and the moves add up
abbrev Join : ℕ → ℕ → Session → Type 0
Join a b s = let first = sliced histories a s in let second = sliced histories b first.state in
    let whole = sliced histories (a + b) s in (second.state ≡ whole.state) × (first.moved + second.moved ≡ whole.moved)

joins_at_once : (a b : ℕ) (s : Session) (e : SliceEnd) → sliced histories (a + b) s ≡ sliced histories a s
    → beat (histories.see (sliced histories a s).state) (ltb 0 b) ≡ ends e → Join a b s
joins_at_once a b s e whole is = grind (arith, at_once b (sliced histories a s).state e is)

pub slices_join : (s : Session) → SlicesJoin s
unfolding going shifted
slices_join s a b = by (beside a b s (enough a)) where
  first : Slicing Session
  first = sliced histories a s

  there : (e : SliceEnd) × (first.ending ≡ Some e)
  there = each_ends histories histories_follow a s

  by : Beside a b s (enough a) → Join a b s
  by (inr h) =
      let x = first.state in
      let second = each_ends histories histories_follow b x in
      let whole : beats histories (a + b) (h.at + enough b) s ≡ shifted a (sliced histories b x) =
      beats_after (a + b) h.at (enough b) (from_here s) ∙ ap (beats_on histories (a + b) (enough b))
      (h.there ∙ (λ i. record { state = x; moved = h.full i; ending = None })) ∙ whole_shifted a b (enough b) x in
      let end : sliced histories (a + b) s ≡ shifted a (sliced histories b x) =
      sym (is_sliced histories histories_follow (a + b) (h.at + enough b) s second.0
      (ap (λ (d : Slicing Session). d.ending) whole ∙ second.1)) ∙ whole in (
        ap (λ (d : Slicing Session). d.state) (sym end),
        ap (λ (m : ℕ). m + (sliced histories b x).moved) h.full ∙ ap (λ (d : Slicing Session). d.moved) (sym end),
      )
  by (inl same) = ended there.0 there.1 where
    whole : sliced histories (a + b) s ≡ first
    whole =
        sym (is_sliced histories histories_follow (a + b) (enough a) s there.0 (ap (λ (d : Slicing Session). d.ending) same ∙ there.1))
        ∙ same

    ended : (e : SliceEnd) → first.ending ≡ Some e → Join a b s
    ended ending.Spent spent =
        let over = ((at_end (a + b) (enough (a + b)) s).spent (ap (λ (d : Slicing Session). d.ending) whole ∙ spent)).0 in
        let few : first.moved ≤ a = moved_few a (enough a) s in
        let equal : (sliced histories (a + b) s).moved ≡ first.moved = ap (λ (d : Slicing Session). d.moved) whole in
        let none : b ≡ 0 = omega (arith, over, few, equal) in
        joins_at_once a b s ending.Spent whole
        (ap (λ (n : ℕ). beat (histories.see first.state) (ltb 0 n)) none ∙ ((at_end a (enough a) s).spent spent).1)
    ended other is = let x = (at_end a (enough a) s).still other is (λ h. cc) (ltb 0 b) in joins_at_once a b s x.0 whole x.1

pub slices_end : (s : Session) → SlicesEnd s
slices_end s n =
    let there = each_ends histories histories_follow n s in (
      λ on. let never : Some there.0 ≡ None = sym there.1 ∙ on in cc,
      λ more. stays_ended histories histories_follow n (enough n) more s there.0 there.1,
    )

-- ---- events whose slices are joined

pub joined_lead_to_the_same : JoinedLeadToTheSame
joined_lead_to_the_same [] joined is s = ap (λ (l : List AnEvent). after_all histories l s) is
joined_lead_to_the_same (e ∷ events) [] is s = absurd is
joined_lead_to_the_same (e ∷ events) (j ∷ joined) (inl (same, more)) s =
    ap (λ (x : AnEvent). after_all histories joined (Effect s x)) same ∙ joined_lead_to_the_same events joined more (Effect s e)
joined_lead_to_the_same (e ∷ events) (j ∷ joined) (inr (a, b, first, whole, more)) s =
    ap (λ (x : AnEvent). after_all histories joined (Effect s x)) whole
    ∙ ap (after_all histories joined) (sym (slices_join s a b).0)
    ∙ joined_lead_to_the_same events (Slice b ∷ joined) more (Effect s (Slice a))
    ∙ ap (λ (x : AnEvent). after_all histories events (Effect s x)) (sym first)
