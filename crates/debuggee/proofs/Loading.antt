-- A program that was just loaded, or is loaded anew.
use Rattle.debuggee.proofs.Common.{[], ap, Back, Debugged, Err, Go, Goal, gone_back, In, IsTick, List, looked_at, moved_as, Ok, OnOk, Option, Out, Over, plain_tick, Position, refl, Result, ReverseGo, settled, subst, suc, sym, Tick, undone, undone_by, zero, ℕ, ◌∙◌, ◌∷◌, ◌≡◌}
use Rattle.image.specs.declared.Image.{Image}
use Rattle.stepping.specs.Loading.{CanBeLoaded, IsLoaded, loaded, no_breakpoints, not_hit, reloaded}
use Rattle.std.specs.declared.alloc.AllocError.{AllocError}
use Rattle.rv32i.specs.declared.instr.Instr.{Instr}
use Rattle.rv32i.specs.declared.stepped.Stepped.{Stepped}
use Rattle.rv32i.specs.declared.stepped.Stepped.TheVariants.{Retired, Printed, Break, Exit, Trap}
use Rattle.stepping.specs.Runs.{EndsRun, Goes, IsRun}
use Rattle.stepping.specs.declared.tick.RunEnd.{RunEnd}
use Rattle.stepping.specs.declared.tick.RunEnd.TheVariants.{Spent, Ticked, NoMemory}
use Rattle.stepping.specs.declared.tick.Ran.{Ran}
use Rattle.stepping.proofs.Cases.{by_tick}
use Rattle.stepping.proofs.Loading.{one_is_loaded, one_is_reloaded}

pub just_is : (image : Image) (size : ℕ) (d : Debugged) → IsLoaded image size no_breakpoints d → d ≡ loaded image size no_breakpoints
just_is image size d h = (one_is_loaded image size no_breakpoints d).0 h

pub anew_is : (image : Image) (before after : Debugged) → IsLoaded image before.size (not_hit before.lists) after
    → after ≡ reloaded image before
anew_is image before after h = (one_is_reloaded image before after).0 h

-- ---- moves keep the size of memory

settled_size : (before after : Debugged) (s : Stepped) (instr : Option Instr) → after ≡ settled s instr before (moved_as before after)
    → after.size ≡ before.size
settled_size before after Retired instr h = ap (λ (d : Debugged). d.size) h
settled_size before after _ instr h = ap (λ (d : Debugged). d.size) h

looked_size : (g : Goal) (d : Debugged) → (looked_at g d).size ≡ d.size
looked_size ReverseGo d = refl
looked_size _ d = refl

undone_size : (past : List Position) (d : Debugged) → (undone_by past d).size ≡ d.size
undone_size [] d = refl
undone_size (p ∷ past) d = refl

gone_size : (d : Debugged) → (gone_back d).size ≡ d.size
gone_size d = looked_size d.goal (undone d) ∙ undone_size d.past d

tick_size : (before after : Debugged) (answer : Result Tick AllocError) → IsTick before answer after → after.size ≡ before.size
tick_size before after answer h =
    by_tick before after answer h (λ due x. ap (λ (d : Debugged). d.size) x.1)
    (λ due turns x. ap (λ (d : Debugged). d.size) x.1 ∙ gone_size before)
    (λ due forward m. settled_size before after m.stepped m.instr m.settles.1)

goes_size : (n : ℕ) (before after : Debugged) → Goes n before after → after.size ≡ before.size
goes_size zero before after g = ap (λ (d : Debugged). d.size) g
goes_size (suc n) before after g = tick_size g.0 after (Ok plain_tick) g.1.1.0 ∙ goes_size n before g.0 g.1.0

pub run_size : (most : ℕ) (before : Debugged) (ran : Ran) (after : Debugged) → IsRun most before ran after → after.size ≡ before.size
run_size most before ran after h = by ran.ending h.ends ∙ goes_size ran.went before h.middle h.goes where
  by : (e : RunEnd) → EndsRun most ran.went e h.middle after → after.size ≡ h.middle.size
  by Spent e = ap (λ (d : Debugged). d.size) e.1
  by (Ticked tick) e = tick_size h.middle after (Ok tick) e.1.1
  by NoMemory e = ap (λ (d : Debugged). d.size) e.1.0

pub still_loadable : (image : Image) (most : ℕ) (before : Debugged) (ran : Ran) (after : Debugged) → IsRun most before ran after
    → CanBeLoaded image before.size → CanBeLoaded image after.size
still_loadable image most before ran after h c = subst (λ n. CanBeLoaded image n) (sym (run_size most before ran after h)) c

pub on_ok : {A B : Type 0} (P Q : Type 0) (r : Result A B) → (P → Q) → OnOk r P → OnOk r Q
on_ok P Q (Ok a) f h = f h
on_ok P Q (Err b) f h = h
