-- What a wire in memory gives.
use Rattle.std.proofs.Common.{◌≡◌, ℕ, ◌+◌, ◌≤◌, List, [], ◌++◌, ◌-◌, length, take, drop, Bool, Some, refl, sym, ap, ◌∙◌, subst, append-nil, take-append-drop}
use Rattle.std.proofs.lemmas.List.{length-take-le, length-drop, drop-drop}
use Rattle.std.proofs.Math.Seq.{take-append_seam, take-length}
use Rattle.wires.specs.Wires.{Line, Moved}

slice_is : (start : ℕ) (l : List ℕ) → take (length l - start) (drop start l) ≡ drop start l
slice_is start l =
    let e : length (drop start l) ≡ length l - start = length-drop start l in ap (λ k. take k (drop start l)) (sym e)
    ∙ take-length (drop start l)

-- a part that was copied is a part of what there was
taken_of : (n : ℕ) (left copied room : List ℕ) → n ≤ length left → copied ≡ take n left
    → left ≡ take n (copied ++ drop n room) ++ drop n left
taken_of n left copied room few e =
    let long : n ≡ length copied = sym (ap length e ∙ length-take-le n left few) in
    let same : take n (copied ++ drop n room) ≡ take n left = ap (λ k. take k (copied ++ drop n room)) long
    ∙ take-append_seam copied (drop n room) ∙ e in
    sym (take-append-drop n left) ∙ ap (λ l. l ++ drop n left) (sym same)

consumes : (items given room copied : List ℕ) (start n : ℕ) → given ≡ items → n ≤ length given - start
    → copied ≡ take n (take (length given - start) (drop start given))
    → drop start items ≡ take n (copied ++ drop n room) ++ drop (start + n) items
consumes items given room copied start n e few copy =
    let within : n ≤ length (drop start given) = subst (λ k. n ≤ k) (sym (length-drop start given)) few in
    let t = taken_of n (drop start given) copied room within (copy ∙ ap (take n) (slice_is start given)) in
    subst (λ l. drop start l ≡ take n (copied ++ drop n room) ++ drop (start + n) l) e
    (t ∙ ap (λ l. take n (copied ++ drop n room) ++ l) (drop-drop n start given))

pub gives : (old : Line) (items given taken room copied : List ℕ) (start n f i w : ℕ) (p : Bool)
    → (let l : Line = record { remaining = Some (drop start items); contents = Some taken; faults = f; idle = i; waits = w; polls = p } in l) ≡ old
    → given ≡ items → n ≤ length given - start → copied ≡ take n (take (length given - start) (drop start given))
    → Moved old (record { remaining = Some (drop (start + n) items); contents = Some taken; faults = f; idle = i; waits = w; polls = p })
    (take n (copied ++ drop n room)) [] old.faults old.idle
gives old items given taken room copied start n f i w p view e few copy =
    subst (λ (l : Line). Moved l
    (record { remaining = Some (drop (start + n) items); contents = Some taken; faults = f; idle = i; waits = w; polls = p })
    (take n (copied ++ drop n room)) [] l.faults l.idle) view (record {
      consumed = consumes items given room copied start n e few copy;
      appended = sym (append-nil taken);
      faults = refl;
      idle = refl;
      polls = refl;
    })
