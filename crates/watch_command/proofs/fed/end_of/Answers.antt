use Rattle.watch_command.proofs.Common.{ap, begins_with_end, drop, length, length-drop, sym, take, ℕ, ◌-◌, ◌∙◌, ◌≡◌}
use Rattle.std.proofs.Math.Seq.{take-length}
use Rattle.watch_command.proofs.Leaving.{found_later}

pub loop-index-preserved : Rattle.watch_command.proofs.fed.end_of.Goals.loop-index-preserved
loop-index-preserved c =
    let bytes = c.args.bytes.now in
    let index = c.loop-index.index in
    let whole : take (length bytes - index) (drop index bytes) ≡ drop index bytes =
    ap (λ (k : ℕ). take k (drop index bytes)) (sym (length-drop index bytes)) ∙ take-length (drop index bytes) in
    sym (found_later index bytes c.loop-index-test.true
    (ap begins_with_end (sym whole) ∙ sym c.begins_with_end.ensures ∙ c.if-begins_with_end.false)) ∙ c.loop-index.invariant
