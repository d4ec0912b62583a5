-- Slices whose lines are written, one after the other.
use Rattle.std.proofs.Common.{◌≡◌, ℕ, suc, ◌+◌, ◌-◌, ◌<◌, ◌≤◌, ◌^◌, List, [], ◌∷◌, ◌++◌, length, take, Option, Some, None, Result, Ok, Err, inl, refl, sym, ap, subst, ◌∙◌, arith, append_assoc, length-append, length-take, take-take}
use Rattle.std.proofs.Math.Nat.{min-le_left, min_comm}
use Rattle.std.specs.Prelude.{IfOk, OnErr, min}
use Rattle.std.specs.Io.KnownBytes.{Appends}
use Rattle.std.specs.declared.alloc.AllocError.{AllocError}
use Rattle.std.proofs.lemmas.List.{append-nil}
use Rattle.blocking_io.specs.Writing.{IsPartWritten}
use Rattle.stepping.specs.Ticks.{Debugged}
use Rattle.execution.proofs.Joining.{ends_within, goes_join, goes_retire, made_of, part_comes}
use Rattle.execution.specs.Executions.{EndsBefore, Executes, Goes, IsGivenUp, IsUnwritten, IsWritten, LacksMemory, Made}
use Rattle.execution.specs.Private.Slices.{BreaksOff, Comes, GivesUp, IsSlice, PartComes, PartWritten, Writes}
use Rattle.execution.specs.declared.end.ExecutionEnd.{ExecutionEnd}
use Rattle.execution.specs.declared.end.ExecutionEnd.TheVariants.{Ended, Stopped, Limit, OutputLimit}
use Rattle.execution.specs.declared.end.ExecutionFault.{ExecutionFault}
use Rattle.execution.specs.declared.end.ExecutionFault.TheVariants.{Write, NoMemory}
use Rattle.execution.specs.declared.executing.Limits.{Limits}
use Rattle.execution.specs.declared.executing.Part.{Part}
use Rattle.execution.specs.declared.slices.Slice.{Slice}

-- ---- what writers have

pub appends_nothing : (known : Option (List ℕ)) → Appends known known []
appends_nothing None = tt
appends_nothing (Some xs) = sym (append-nil xs)

pub appends_join : (a b c : Option (List ℕ)) (lines more : List ℕ) → Appends a b lines → Appends b c more → Appends a c (lines ++ more)
appends_join None b c lines more h k = tt
appends_join (Some xs) None c lines more h k = absurd h
appends_join (Some xs) (Some ys) None lines more h k = absurd k
appends_join (Some xs) (Some ys) (Some zs) lines more h k = k ∙ ap (λ t. t ++ more) h ∙ append_assoc xs lines more

-- ---- a slice

-- some ticks were made, and their lines are the text that was not all written
not_whole : (most : ℕ) (start after : Debugged) (lines text : List ℕ) (before now : Option (List ℕ)) → Made most start lines after
    → text ≡ lines → IsPartWritten before now text → IsUnwritten most start after before now
not_whole most start after lines text before now made is w = record {
  lines = lines;
  made = made;
  count = w.count;
  short = subst (λ t. w.count < length t) is w.short;
  written = subst (λ t. Appends before now (take w.count t)) is w.appended;
}

-- where the writer failed
pub unwritten : (most : ℕ) (start after : Debugged) (r : Result Slice AllocError) (text text' : List ℕ) (before now : Option (List ℕ))
    → text ≡ []
    → IfOk r (λ s. IsSlice most s.made s.end start after text text') → OnErr r (BreaksOff most start after text text')
    → IsPartWritten before now text' → IsUnwritten most start after before now
unwritten most start after (Ok s) text text' before now none h e w =
    not_whole most start after h.lines text' before now (made_of most s.made s.end start after h.lines h.comes)
    (h.text_is ∙ ap (λ t. t ++ h.lines) none) w
unwritten most start after (Err error) text text' before now none h e w =
    not_whole most start after e.lines text' before now (inl (e.ticks, omega (arith, e.below), e.goes))
    (e.text_is ∙ ap (λ t. t ++ e.lines) none) w

-- where the first bytes alone were to be written
pub less_written : (room : ℕ) (text : List ℕ) (before now : Option (List ℕ)) → IsPartWritten before now (take room text)
    → IsPartWritten before now text
less_written room text before now w =
    let below : w.count < room = omega (arith, w.short, length-take room text) in
    let short : w.count < length text = omega (arith, w.short, length-take room text) in
    let same : take w.count (take room text) ≡ take w.count text = take-take w.count room text (omega (arith, below)) in
    record {
      count = w.count;
      short = short;
      appended = subst (λ t. Appends before now t) same w.appended;
    }

-- what a slice made, whatever its answer
pub record MadeText (most : ℕ) (start after : Debugged) (text : List ℕ) : Type 0 where
  pub lines : List ℕ
  pub made : Made most start lines after
  pub is : text ≡ lines

pub made_text : (most : ℕ) (start after : Debugged) (r : Result Slice AllocError) (text text' : List ℕ) → text ≡ []
    → IfOk r (λ s. IsSlice most s.made s.end start after text text') → OnErr r (BreaksOff most start after text text')
    → MadeText most start after text'
made_text most start after (Ok s) text text' none h e = record {
  lines = h.lines;
  made = made_of most s.made s.end start after h.lines h.comes;
  is = h.text_is ∙ ap (λ t. t ++ h.lines) none;
}
made_text most start after (Err error) text text' none h e = record {
  lines = e.lines;
  made = inl (e.ticks, omega (arith, e.below), e.goes);
  is = e.text_is ∙ ap (λ t. t ++ e.lines) none;
}

-- where more was printed than may be written
pub cut : (most room : ℕ) (part : Part) (start after : Debugged) (text : List ℕ) (before now : Option (List ℕ)) → room < length text
    → part.end ≡ Some OutputLimit → MadeText most start after text → Appends before now (take room text)
    → Writes most room part start after before now
cut most room part start after text before now more end m w = record {
  lines = text;
  comes = subst (λ e. PartComes most part.made e start text after) (sym end) (subst (λ t. Made most start t after) (sym m.is) m.made);
  written = subst (λ e. PartWritten room e text before now) (sym end) (more, w);
  bytes = λ none. absurd (cc (end, none));
}

-- where all was written
all_fits : (room : ℕ) (end : ExecutionEnd) (most made : ℕ) (start after : Debugged) (lines : List ℕ) (before now : Option (List ℕ))
    → PartComes most made (Some end) start lines after → EndsBefore most end start lines after → length lines ≤ room → Appends before now lines
    → IsWritten room end lines before now
all_fits room (Ended code) most made start after lines before now c e few w = (few, w)
all_fits room (Stopped reason) most made start after lines before now c e few w = (few, w)
all_fits room Limit most made start after lines before now c e few w = absurd c
all_fits room OutputLimit most made start after lines before now c e few w = absurd e

part_written : (room : ℕ) (end : Option ExecutionEnd) (most made : ℕ) (start after : Debugged) (lines : List ℕ) (before now : Option (List ℕ))
    → Comes most made end start lines after → length lines ≤ room → Appends before now lines → PartWritten room end lines before now
part_written room None most made start after lines before now c few w = (few, w)
part_written room (Some end) most made start after lines before now c few w =
    all_fits room end most made start after lines before now (part_comes most made (Some end) start after lines c) c few w

pub all_written : (most room made : ℕ) (end : Option ExecutionEnd) (bytes : ℕ) (start after : Debugged) (text text' : List ℕ)
    (before now : Option (List ℕ)) → text ≡ [] → IsSlice most made end start after text text' → length text' ≤ room → bytes ≡ length text'
    → Appends before now text' → Writes most room (record { made = made; end = end; bytes = bytes }) start after before now
all_written most room made end bytes start after text text' before now none h few count w =
    let is : text' ≡ h.lines = h.text_is ∙ ap (λ t. t ++ h.lines) none in
    let fits : length h.lines ≤ room = subst (λ t. length t ≤ room) is few in
    record {
      lines = h.lines;
      comes = part_comes most made end start after h.lines h.comes;
      written = part_written room end most made start after h.lines before now h.comes fits (subst (λ t. Appends before now t) is w);
      bytes = λ goes. count ∙ ap length is;
    }

-- where no memory was left
pub lacking : (most : ℕ) (start after : Debugged) (text text' : List ℕ) (before now : Option (List ℕ)) → text ≡ []
    → BreaksOff most start after text text' → Appends before now text' → LacksMemory most start after before now
lacking most start after text text' before now none e w =
    record {
      ticks = e.ticks;
      below = e.below;
      lines = e.lines;
      goes = e.goes;
      written = let is : text' ≡ e.lines = e.text_is ∙ ap (λ t. t ++ e.lines) none in subst (λ t. Appends before now t) is w;
    }

-- ---- slices, one after the other

-- Instructions were made and their lines written, and there is room for `room` more bytes. No more than 2^62 will have retired after
-- as many as are left.
pub record SoWritten (limits : Limits) (left room : ℕ) (start after : Debugged) (before now : Option (List ℕ)) : Type 0 where
  pub few : left ≤ limits.instructions
  pub lines : List ℕ
  pub goes : Goes (limits.instructions - left) start lines after
  pub bytes : length lines + room ≡ limits.bytes
  pub written : Appends before now lines
  pub retires : after.retired + left ≤ 2 ^ 62

pub none_written : (limits : Limits) (start : Debugged) (before : Option (List ℕ)) → start.retired + limits.instructions ≤ 2 ^ 62
    → SoWritten limits limits.instructions limits.bytes start start before before
none_written limits start before retires = record {
  few = omega arith;
  lines = [];
  goes =
      let none : limits.instructions - limits.instructions ≡ 0 = omega arith in
      subst (λ n. Goes n start [] start) (sym none) (refl, refl);
  bytes = omega arith;
  written = appends_nothing before;
  retires = retires;
}

pub more_written : (limits : Limits) (left room most : ℕ) (part : Part) (start middle after : Debugged) (before now later : Option (List ℕ))
    → most ≤ left → SoWritten limits left room start middle before now → part.end ≡ None → Writes most room part middle after now later
    → SoWritten limits (left - part.made) (room - part.bytes) start after before later
more_written limits left room most part start middle after before now later few s is w =
    let comes : PartComes most part.made None middle w.lines after = subst (λ e. PartComes most part.made e middle w.lines after) is w.comes in
    let written : PartWritten room None w.lines now later = subst (λ e. PartWritten room e w.lines now later) is w.written in
    record {
      few = omega (arith, s.few);
      lines = s.lines ++ w.lines;
      goes =
          let all : limits.instructions - left + part.made ≡ limits.instructions - (left - part.made) = omega (arith, s.few, few, comes.1) in
          subst (λ n. Goes n start (s.lines ++ w.lines) after) all
          (goes_join (limits.instructions - left) part.made start middle after s.lines w.lines s.goes comes.2);
      bytes = omega (arith, s.bytes, w.bytes is, written.0, length-append s.lines w.lines);
      written = appends_join before now later s.lines w.lines s.written written.1;
      retires = omega (arith, s.retires, few, comes.1, goes_retire part.made middle after w.lines comes.2);
    }

-- the first of some more bytes than there is room for are those of all
take_over : (xs ys : List ℕ) (n : ℕ) → take (length xs + n) (xs ++ ys) ≡ xs ++ take n ys
take_over [] ys n = let same : length {A = ℕ} [] + n ≡ n = omega arith in ap (λ k. take k ys) same
take_over (x ∷ xs) ys n =
    let next : length (x ∷ xs) + n ≡ suc (length xs + n) = omega arith in
    ap (λ k. take k (x ∷ (xs ++ ys))) next ∙ ap (λ t. x ∷ t) (take_over xs ys n)

written_join : (bytes room : ℕ) (end : ExecutionEnd) (lines more : List ℕ) (before now later : Option (List ℕ)) → length lines + room ≡ bytes
    → Appends before now lines → IsWritten room end more now later → IsWritten bytes end (lines ++ more) before later
written_join bytes room (Ended code) lines more before now later e w (few, v) =
    (omega (arith, e, few, length-append lines more), appends_join before now later lines more w v)
written_join bytes room (Stopped reason) lines more before now later e w (few, v) =
    (omega (arith, e, few, length-append lines more), appends_join before now later lines more w v)
written_join bytes room Limit lines more before now later e w (few, v) =
    (omega (arith, e, few, length-append lines more), appends_join before now later lines more w v)
written_join bytes room OutputLimit lines more before now later e w (beyond, v) =
    let first : take bytes (lines ++ more) ≡ lines ++ take room more = ap (λ k. take k (lines ++ more)) (sym e) ∙ take_over lines more room in (
      omega (arith, e, beyond, length-append lines more),
      subst (λ t. Appends before later t) (sym first) (appends_join before now later lines (take room more) w v),
    )

pub ended : (limits : Limits) (left room most : ℕ) (part : Part) (end : ExecutionEnd) (start middle after : Debugged)
    (before now later : Option (List ℕ)) → most ≤ left → SoWritten limits left room start middle before now → part.end ≡ Some end
    → Writes most room part middle after now later → Executes limits end start after before later
ended limits left room most part end start middle after before now later few s is w = record {
  lines = s.lines ++ w.lines;
  ends = ends_within (limits.instructions - left) most limits.instructions part.made end start middle after s.lines w.lines
      (omega (arith, s.few, few)) s.goes (subst (λ e. PartComes most part.made e middle w.lines after) is w.comes);
  written = written_join limits.bytes room end s.lines w.lines before now later s.bytes s.written
      (subst (λ e. PartWritten room e w.lines now later) is w.written);
}

pub given_up : (fault : ExecutionFault) (limits : Limits) (left room most : ℕ) (start middle after : Debugged) (before now later : Option (List ℕ))
    → most ≤ left → most ≤ 100000
    → SoWritten limits left room start middle before now → GivesUp most fault middle after now later
    → IsGivenUp limits.instructions fault start after before later
given_up Write limits left room most start middle after before now later few slice s g = record {
  ticks = limits.instructions - left;
  lines = s.lines;
  middle = middle;
  goes = s.goes;
  between = now;
  written = s.written;
  next = most;
  few = slice;
  within = omega (arith, s.few, few);
  unwritten = g;
}
given_up NoMemory limits left room most start middle after before now later few slice s g = record {
  ticks = limits.instructions - left + g.ticks;
  below = omega (arith, s.few, few, g.below);
  lines = s.lines ++ g.lines;
  goes = goes_join (limits.instructions - left) g.ticks start middle after s.lines g.lines s.goes g.goes;
  written = appends_join before now later s.lines g.lines s.written g.written;
}

pub limit_met : (limits : Limits) (left room : ℕ) (start after : Debugged) (before now : Option (List ℕ)) → left ≤ 0
    → SoWritten limits left room start after before now
    → Executes limits Limit start after before now
limit_met limits left room start after before now none s = record {
  lines = s.lines;
  ends =
      let all : limits.instructions - left ≡ limits.instructions = omega (arith, none) in
      subst (λ n. Goes n start s.lines after) all s.goes;
  written = (omega (arith, s.bytes), s.written);
}

pub at_most : (left slice most : ℕ) → most ≡ min left slice → most ≤ left
at_most left slice most e = subst (λ n. n ≤ left) (sym e) (min-le_left left slice)

pub in_slice : (left slice most : ℕ) → most ≡ min left slice → most ≤ slice
in_slice left slice most e = subst (λ n. n ≤ slice) (sym (e ∙ min_comm left slice)) (min-le_left slice left)
