-- Ticks, and further ticks after them.
use Rattle.std.proofs.Common.{◌≡◌, ℕ, zero, suc, ◌+◌, ◌<◌, ◌≤◌, inl, inr, ℤ, ◌-◌, List, [], ◌++◌, Option, Some, None, Result, Ok, Err, ◌^◌, refl, sym, ap, subst, ◌∙◌, arith, append_assoc}
use Rattle.std.specs.Prelude.{OnErr}
use Rattle.std.proofs.lemmas.List.{append-nil}
use Rattle.stepping.proofs.Going.{tick_retires}
use Rattle.stepping.specs.Plain.{IsPlain}
use Rattle.stepping.specs.Runs.{EndsRun, Goes as GoesPlain, IsRun, MayLackMemory}
use Rattle.stepping.specs.Ticks.{Debugged, IsTick}
use Rattle.stepping.specs.declared.tick.Outcome.{Outcome}
use Rattle.stepping.specs.declared.tick.Outcome.TheVariants as outcome
use Rattle.stepping.specs.declared.tick.Ran.{Ran}
use Rattle.stepping.specs.declared.tick.RunEnd.TheVariants as run_end
use Rattle.stepping.specs.declared.tick.Tick.{Tick}
use Rattle.execution.specs.Executions.{Ends, EndsBefore, Goes, Made, Meets, line_of}
use Rattle.execution.specs.Private.Slices.{BreaksOff, Comes, IsSlice, PartComes, end_by}
use Rattle.execution.specs.declared.end.ExecutionEnd.{ExecutionEnd}
use Rattle.execution.specs.declared.end.ExecutionEnd.TheVariants.{Ended, Stopped, Limit, OutputLimit}

pub goes_join : (n m : ℕ) (start middle after : Debugged) (lines more : List ℕ) → Goes n start lines middle → Goes m middle more after
    → Goes (n + m) start (lines ++ more) after
goes_join n zero start middle after lines more g h =
    let same : n + zero ≡ n = omega arith in
    let text : lines ++ more ≡ lines = ap (λ t. lines ++ t) h.0 ∙ append-nil lines in
    subst (λ k. Goes k start (lines ++ more) after) (sym same)
    (subst (λ t. Goes n start t after) (sym text) (subst (λ d. Goes n start lines d) (sym h.1) g))
goes_join n (suc m) start middle after lines more g (before, earlier, line, h, does, e) =
    let next : n + suc m ≡ suc (n + m) = omega arith in
    let text : lines ++ more ≡ (lines ++ earlier) ++ line = ap (λ t. lines ++ t) e ∙ sym (append_assoc lines earlier line) in
    subst (λ k. Goes k start (lines ++ more) after) (sym next)
    (before, lines ++ earlier, line, goes_join n m start middle before lines earlier g h, does, text)

pub meets_join : (out : Outcome) (n m : ℕ) (start middle after : Debugged) (lines more : List ℕ) → Goes n start lines middle
    → Meets out m middle more after → Meets out (n + m) start (lines ++ more) after
meets_join out n m start middle after lines more g h = record {
  before = h.before;
  earlier = lines ++ h.earlier;
  line = h.line;
  goes = goes_join n m start middle h.before lines h.earlier g h.goes;
  last = h.last;
  all = ap (λ t. lines ++ t) h.all ∙ sym (append_assoc lines h.earlier h.line);
}

pub ends_join : (n m most : ℕ) (end : ExecutionEnd) (start middle after : Debugged) (lines more : List ℕ) → n + m ≤ most
    → Goes n start lines middle → EndsBefore m end middle more after → EndsBefore most end start (lines ++ more) after
ends_join n m most (Ended code) start middle after lines more few g (ticks, below, h) =
    (n + ticks, omega (arith, few, below), meets_join (outcome.Ended code) n ticks start middle after lines more g h)
ends_join n m most (Stopped reason) start middle after lines more few g (ticks, below, h) =
    (n + ticks, omega (arith, few, below), meets_join (outcome.Stopped reason) n ticks start middle after lines more g h)
ends_join n m most Limit start middle after lines more few g h = h
ends_join n m most OutputLimit start middle after lines more few g h = h

pub made_join : (n m most : ℕ) (start middle after : Debugged) (lines more : List ℕ) → n + m ≤ most → Goes n start lines middle
    → Made m middle more after → Made most start (lines ++ more) after
made_join n m most start middle after lines more few g (inl (ticks, within, h)) =
    inl (n + ticks, omega (arith, few, within), goes_join n ticks start middle after lines more g h)
made_join n m most start middle after lines more few g (inr (end, h)) =
    inr (end, ends_join n m most end start middle after lines more few g h)

pub ends_within : (n m limit made : ℕ) (end : ExecutionEnd) (start middle after : Debugged) (lines more : List ℕ) → n + m ≤ limit
    → Goes n start lines middle → PartComes m made (Some end) middle more after → Ends limit end start (lines ++ more) after
ends_within n m limit made (Ended code) start middle after lines more few g h =
    ends_join n m limit (Ended code) start middle after lines more few g h
ends_within n m limit made (Stopped reason) start middle after lines more few g h =
    ends_join n m limit (Stopped reason) start middle after lines more few g h
ends_within n m limit made Limit start middle after lines more few g h = absurd h
ends_within n m limit made OutputLimit start middle after lines more few g h =
    made_join n m limit start middle after lines more few g h

-- what a slice comes to whose lines are all written
pub part_comes : (most made : ℕ) (end : Option ExecutionEnd) (start after : Debugged) (lines : List ℕ) → Comes most made end start lines after
    → PartComes most made end start lines after
part_comes most made None start after lines h = h
part_comes most made (Some (Ended code)) start after lines h = h
part_comes most made (Some (Stopped reason)) start after lines h = h
part_comes most made (Some Limit) start after lines h = h
part_comes most made (Some OutputLimit) start after lines h = absurd h

-- ---- how many instructions retire

pub goes_retire : (n : ℕ) (start after : Debugged) (lines : List ℕ) → Goes n start lines after → after.retired ≤ start.retired + n
goes_retire zero start after lines g = omega (arith, ap (λ (d : Debugged). d.retired) g.1)
goes_retire (suc n) start after lines (before, earlier, line, g, (number, tick, l), e) =
    omega (arith, goes_retire n start before earlier g, tick_retires before after _ tick)

-- ---- a run of a machine

pub plain_goes : (n : ℕ) (start after : Debugged) → GoesPlain n start after → Goes n start [] after
plain_goes zero start after g = (refl, g)
plain_goes (suc n) start after (before, (g, (tick, quiet))) = (before, [], [], plain_goes n start before g, (None, tick, refl), refl)

-- what a slice made
pub made_of : (most made : ℕ) (end : Option ExecutionEnd) (start after : Debugged) (lines : List ℕ) → Comes most made end start lines after
    → Made most start lines after
made_of most made None start after lines c = inl (made, c.1, c.2)
made_of most made (Some end) start after lines c = inr (end, c)

-- this many ticks with nothing printed, and one more with this outcome
pub one_more : (n most : ℕ) (out : Outcome) (number : Option ℤ) (start middle after : Debugged) → n < most → GoesPlain n start middle
    → IsTick middle (Ok (record { printed = number; outcome = out })) after
    → (made : ℕ) → (end_by out ≡ None → made ≡ n + 1) → Comes most made (end_by out) start (line_of number) after
one_more n most outcome.Went number start middle after below g tick made e =
    let is : made ≡ suc n = omega (arith, e refl) in (
      omega (arith, is),
      omega (arith, is, below),
      subst (λ k. Goes k start (line_of number) after) (sym is)
          (middle, [], line_of number, plain_goes n start middle g, (number, tick, refl), refl),
    )
one_more n most (outcome.Stopped reason) number start middle after below g tick made e = (
  n,
  below,
  record {
    before = middle;
    earlier = [];
    line = line_of number;
    goes = plain_goes n start middle g;
    last = (number, tick, refl);
    all = refl;
  },
)
one_more n most (outcome.Ended code) number start middle after below g tick made e = (
  n,
  below,
  record {
    before = middle;
    earlier = [];
    line = line_of number;
    goes = plain_goes n start middle g;
    last = (number, tick, refl);
    all = refl;
  },
)

-- ---- what a run comes to

-- where as many went as were asked for
pub spent : (most : ℕ) (start after : Debugged) (ran : Ran) (text text' : List ℕ) → 1 ≤ most → IsRun most start ran after
    → ran.ending ≡ run_end.Spent → text' ≡ text → IsSlice most most None start after text text'
spent most start after ran text text' some r is same =
    let e : (ran.went ≡ most) × (after ≡ r.middle) = subst (λ x. EndsRun most ran.went x r.middle after) is r.ends in
    let goes : GoesPlain most start after = subst (λ d. GoesPlain most start d) (sym e.1)
    (subst (λ k. GoesPlain k start r.middle) e.0 r.goes) in
    record {
      lines = [];
      comes = (some, omega arith, plain_goes most start after goes);
      text_is = same ∙ sym (append-nil text);
    }

-- where one more ticked
pub ticked : (most : ℕ) (start after : Debugged) (ran : Ran) (tick : Tick) (text text' text'' : List ℕ) (made : ℕ) (end : Option ExecutionEnd)
    → IsRun most start ran after → ran.ending ≡ run_end.Ticked tick → end ≡ end_by tick.outcome
    → (end_by tick.outcome ≡ None → made ≡ ran.went + 1) → text' ≡ text → text'' ≡ text' ++ line_of tick.printed
    → IsSlice most made end start after text text''
ticked most start after ran tick text text' text'' made end r is ends counts same line =
    let e : (ran.went < most) × ((IsPlain tick after → ⊥) × IsTick r.middle (Ok tick) after) =
    subst (λ x. EndsRun most ran.went x r.middle after) is r.ends in
    record {
      lines = line_of tick.printed;
      comes = subst (λ x. Comes most made x start (line_of tick.printed) after) (sym ends)
          (one_more ran.went most tick.outcome tick.printed start r.middle after e.0 r.goes e.1.1 made counts);
      text_is = line ∙ ap (λ t. t ++ line_of tick.printed) same;
    }

-- where no memory was left for its line, before it was made
pub none_made : (most : ℕ) (start : Debugged) (text text' : List ℕ) → 1 ≤ most → text' ≡ text → BreaksOff most start start text text'
none_made most start text text' some same = record {
  ticks = 0;
  below = omega (arith, some);
  lines = [];
  goes = (refl, refl);
  text_is = same ∙ sym (append-nil text);
}

-- where no memory was left for a page
pub lacked : (most : ℕ) (start after : Debugged) (ran : Ran) (text text' : List ℕ)
    → IsRun most start ran after → ran.ending ≡ run_end.NoMemory → text' ≡ text → BreaksOff most start after text text'
lacked most start after ran text text' r is same =
    let e : (ran.went < most) × ((after ≡ r.middle) × MayLackMemory r.middle) = subst
    (λ x. EndsRun most ran.went x r.middle after) is r.ends in
    let goes : GoesPlain ran.went start after = subst (λ d. GoesPlain ran.went start d) (sym e.1.0) r.goes in
    record {
      ticks = ran.went;
      below = e.0;
      lines = [];
      goes = plain_goes ran.went start after goes;
      text_is = same ∙ sym (append-nil text);
    }

-- ---- slices, one after the other

-- this many instructions of a slice, with their lines after a text
pub record SoFar (made : ℕ) (start after : Debugged) (text text' : List ℕ) : Type 0 where
  pub lines : List ℕ
  pub goes : Goes made start lines after
  pub text_is : text' ≡ text ++ lines

pub none_yet : (start : Debugged) (text : List ℕ) → SoFar 0 start start text text
none_yet start text = record { lines = []; goes = (refl, refl); text_is = sym (append-nil text) }

more_text : (text lines more text' text'' : List ℕ) → text' ≡ text ++ lines → text'' ≡ text' ++ more → text'' ≡ text ++ (lines ++ more)
more_text text lines more text' text'' e f = f ∙ ap (λ t. t ++ more) e ∙ append_assoc text lines more

pub goes_on : (most n made : ℕ) (start middle after : Debugged) (text text' text'' : List ℕ) → SoFar n start middle text text'
    → IsSlice (most - n) made None middle after text' text'' → SoFar (n + made) start after text text''
goes_on most n made start middle after text text' text'' s h = record {
  lines = s.lines ++ h.lines;
  goes = goes_join n made start middle after s.lines h.lines s.goes h.comes.2;
  text_is = more_text text s.lines h.lines text' text'' s.text_is h.text_is;
}

pub ends_in_slice : (most n made other : ℕ) (end : ExecutionEnd) (start middle after : Debugged) (text text' text'' : List ℕ) → n ≤ most
    → SoFar n start middle text text' → IsSlice (most - n) made (Some end) middle after text' text''
    → IsSlice most other (Some end) start after text text''
ends_in_slice most n made other end start middle after text text' text'' few s h = record {
  lines = s.lines ++ h.lines;
  comes = ends_join n (most - n) most end start middle after s.lines h.lines (omega (arith, few)) s.goes h.comes;
  text_is = more_text text s.lines h.lines text' text'' s.text_is h.text_is;
}

-- what the loop over them keeps
pub record Keeps (most n : ℕ) (start after : Debugged) (text text' : List ℕ) : Type 0 where
  pub few : n ≤ most
  pub so_far : SoFar n start after text text'
  pub room : after.retired + (most - n) ≤ 2 ^ 62

pub slice_keeps : (most n made : ℕ) (start middle after : Debugged) (text text' text'' : List ℕ) → Keeps most n start middle text text'
    → IsSlice (most - n) made None middle after text' text'' → Keeps most (n + made) start after text text''
slice_keeps most n made start middle after text text' text'' k h = record {
  few = omega (arith, k.few, h.comes.1);
  so_far = goes_on most n made start middle after text text' text'' k.so_far h;
  room = omega (arith, k.few, h.comes.1, k.room, goes_retire made middle after h.lines h.comes.2);
}

pub whole_slice : (most n : ℕ) (start after : Debugged) (text text' : List ℕ) → 1 ≤ n → n ≤ most → SoFar n start after text text'
    → IsSlice most n None start after text text'
whole_slice most n start after text text' some few s =
    record { lines = s.lines; comes = (some, few, s.goes); text_is = s.text_is }

-- where its lines are enough
pub slice_so_far : (most n made : ℕ) (start middle after : Debugged) (text text' text'' : List ℕ) → Keeps most n start middle text text'
    → IsSlice (most - n) made None middle after text' text'' → IsSlice most (n + made) None start after text text''
slice_so_far most n made start middle after text text' text'' k h =
    whole_slice most (n + made) start after text text'' (omega (arith, h.comes.0)) (omega (arith, k.few, h.comes.1))
    (goes_on most n made start middle after text text' text'' k.so_far h)

pub breaks_in_slice : (most n : ℕ) (start middle after : Debugged) (text text' text'' : List ℕ) → n ≤ most
    → SoFar n start middle text text' → BreaksOff (most - n) middle after text' text'' → BreaksOff most start after text text''
breaks_in_slice most n start middle after text text' text'' few s h = record {
  ticks = n + h.ticks;
  below = omega (arith, few, h.below);
  lines = s.lines ++ h.lines;
  goes = goes_join n h.ticks start middle after s.lines h.lines s.goes h.goes;
  text_is = more_text text s.lines h.lines text' text'' s.text_is h.text_is;
}

pub on_err : {T E P : Type 0} (answer : Result T E) → P → OnErr answer P
on_err (Ok value) p = tt
on_err (Err error) p = p
