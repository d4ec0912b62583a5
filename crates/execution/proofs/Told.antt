-- What is told of registers and of the last instructions, line by line.
use Rattle.std.proofs.Common.{◌≡◌, ◌∙◌, ℕ, suc, ◌+◌, ◌<◌, ◌≤◌, true, List, ◌++◌, length, min, drop, Result, Ok, Err, OnOk, refl, sym, ap, subst, arith, append_assoc, drop-cons, slice_index}
use Rattle.rv32i.specs.Names.{name_of}
use Rattle.rv32i.specs.declared.hart.Hart.{Hart}
use Rattle.stepping.specs.Goals.{turns_back}
use Rattle.stepping.specs.Ticks.{Debugged, IsTick}
use Rattle.stepping.specs.declared.goal.Goal.TheVariants.{Back, Go}
use Rattle.stepping.specs.declared.tick.Tick.{Tick}
use Rattle.execution.specs.Registers.{lines_from, register_line}
use Rattle.execution.specs.Traces.{Adds, AddsLine, IsLine, IsTrace, Traced, WentBack, begun, word_here}

pub next_register : (x : List ℕ) (n : ℕ) (told told' all : List ℕ) → n < length x
    → told' ≡ told ++ register_line (name_of n) (slice_index x n) → told ++ lines_from n (drop n x) ≡ all
    → told' ++ lines_from (n + 1) (drop (n + 1) x) ≡ all
next_register x n told told' all below is so_far =
    let next : n + 1 ≡ suc n = omega arith in
    let front : lines_from n (drop n x) ≡ register_line (name_of n) (slice_index x n) ++ lines_from (n + 1) (drop (n + 1) x) =
    ap (λ l. lines_from n l) (drop-cons x n 0 below)
    ∙ ap (λ k. register_line (name_of n) (slice_index x n) ++ lines_from k (drop k x)) (sym next) in
    ap (λ t. t ++ lines_from (n + 1) (drop (n + 1) x)) is
    ∙ append_assoc told (register_line (name_of n) (slice_index x n)) (lines_from (n + 1) (drop (n + 1) x))
    ∙ ap (λ t. told ++ t) (sym front) ∙ so_far

pub on_ok : {T E P Q : Type 0} (answer : Result T E) → (P → Q) → OnOk answer P → OnOk answer Q
on_ok (Ok value) f p = f p
on_ok (Err error) f p = tt

-- ---- the last instructions

pub back_once : (n : ℕ) (start before b after : Debugged) (tick : Tick) → WentBack n start before → b ≡ begun Back before
    → IsTick b (Ok tick) after → WentBack (n + 1) start after
back_once n start before b after tick w is t =
    let next : n + 1 ≡ suc n = omega arith in
    subst (λ k. WentBack k start after) (sym next) (before, w, (tick, subst (λ d. IsTick d (Ok tick) after) is t))

pub back_retires : (start before b after : Debugged) → b ≡ begun Back before
    → (turns_back b.goal ≡ true → after.retired ≤ b.retired) → before.retired ≤ start.retired → after.retired ≤ start.retired
back_retires start before b after is less so_far =
    let fewer : after.retired ≤ before.retired = subst (λ (d : Debugged). turns_back d.goal ≡ true → after.retired ≤ d.retired) is less refl in
    omega (arith, fewer, so_far)

pub step_added : (d after : Debugged) (tick : Tick) (word : ℕ) (b a : Hart) (text text' : List ℕ) → IsTick d (Ok tick) after
    → word ≡ word_here d → b ≡ d.hart → a ≡ after.hart → AddsLine word b a text text' → Adds d text text' after
step_added d after tick word b a text text' t w before behind (told, is, e) = (
  (tick, t),
  (
    told,
    subst (λ x. IsLine (word_here d) d.hart x told) behind
        (subst (λ x. IsLine (word_here d) x a told) before (subst (λ x. IsLine x b a told) w is)),
    e,
  ),
)

pub trace_more : (n : ℕ) (start before after : Debugged) (told told' : List ℕ) → Traced n start told before → Adds before told told' after
    → Traced (n + 1) start told' after
trace_more n start before after told told' g adds =
    let next : n + 1 ≡ suc n = omega arith in subst (λ k. Traced k start told' after) (sym next) (before, told, g, adds)

pub traced : (count steps : ℕ) (now back b after : Debugged) (told : List ℕ) → steps ≡ min (length now.past) count → WentBack steps now back
    → b ≡ begun Go back → Traced steps b told after → IsTrace count now told
traced count steps now back b after told few w is t = record {
  back = back;
  went_back = subst (λ k. WentBack k now back) few w;
  after = after;
  traced = subst (λ d. Traced (min (length now.past) count) d told after) is (subst (λ k. Traced k b told after) few t);
}
