use Rattle.course.proofs.Common.{AreKnown, arith, Entry, forgotten, List, subst, sym, ℕ, ◌%◌, ◌*◌, ◌+◌, ◌/◌, ◌∙◌, ◌≡◌}
use Rattle.course.proofs.Remembering.{known_forgotten}

pub loop-k-preserved : Rattle.course.proofs.places.forget_words.Goals.loop-k-preserved
loop-k-preserved c =
    let from : ℕ = c.args.addr / 4 * 4 in
    let at : ℕ = from + 4 * c.loop-k.k in
    let whole : at % 4 ≡ 0 = omega arith in
    let next : at + 4 ≡ from + 4 * (c.loop-k.k + 1) = omega arith in
    record {
      forgets = λ m known.
          subst (λ (es : List Entry). AreKnown m from (from + 4 * (c.loop-k.k + 1)) es) (sym c.forget.ensures.forgets)
          (subst (λ (to : ℕ). AreKnown m from to (forgotten at c.loop-k.entries.items)) next
          (known_forgotten m from at c.loop-k.entries.items (c.loop-k.invariant.forgets m known) whole));
      room = c.forget.ensures.room ∙ c.loop-k.invariant.room;
    }
