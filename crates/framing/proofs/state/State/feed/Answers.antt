use Rattle.framing.proofs.Common.{ap, Breaks, drop, fault_of, fed, FrameError, length, List, range, rules, Start, tail_by, take_rest, Unframed, ℕ, ◌-◌, ◌∙◌, ◌≡◌}
use Rattle.framing.proofs.Holding.{Came, came, feeds_fault, marked, not_broken, unbroken_tail}
use Rattle.framing.proofs.state.State.feed.Goals as goal
use Rattle.framing.proofs.state.State.feed.Goals.{After-len-2}

-- what the piece leads to
it : (c : After-len-2) → Came c.self.inside c.args.piece.now c.append.new.bytes.items c.in-Ok.dropped
    (c.len.result - length c.args.piece.now) (c.len-2.result - c.split-next.result.size) c.first_start-first.result
    c.split-next.result.start (marked c.self.inside c.in-Ok.dropped (c.len.result - length c.args.piece.now))
it c =
    let s = c.self.inside in
    let done = s.done - c.in-Ok.dropped in
    let all : List ℕ = c.deref.result.now in
    let long : c.len.result ≡ length c.append.new.bytes.items = search rules in
    let long_now : c.len-2.result ≡ length c.append.new.bytes.items = search rules in
    came s c.args.piece.now c.append.new.bytes.items (range all done (length all)) c.in-Ok.dropped _ _ c.split-next.result.size
    c.with_more-start.result c.first_start-first.result c.split-next.result.start c.self.invariant.holds
    (not_broken s.start c.in_default.not-Breaks) c.in-Ok.ensures.ok.0 c.in-Ok.ensures.ok.1
    (take_rest all done ∙ ap (drop done) c.deref.ensures.value) c.with_more-start.ensures c.first_start-first.ensures c.split-next.ensures
    (ap (λ n. n - length c.args.piece.now) long) (ap (λ n. n - c.split-next.result.size) long_now)

pub invariant_of-self-in-Breaks-start : goal.invariant_of-self-in-Breaks-start
invariant_of-self-in-Breaks-start c = (it (goal.at.invariant_of-self-in-Breaks-start c).After-len-2).fits

pub returns-in-Breaks-start-clause-kept : goal.returns-in-Breaks-start-clause-kept
returns-in-Breaks-start-clause-kept c =
    let i = it (goal.at.returns-in-Breaks-start-clause-kept c).After-len-2 in
    rw c.keep_needed.ensures (feeds_fault c.args.self.now c.args.piece.now _ c.in-Breaks-start.fault
    (i.fed_is ∙ ap (λ (k : Unframed). fed k c.args.piece.now) c.self.view_is)
    (ap (λ (s : Start). fault_of (tail_by s (drop (c.len-2.result - c.split-next.result.size) c.append.new.bytes.items)))
    c.in-Breaks-start.is)
    (λ m. i.fits.holds.starts.no_other (c.in-Breaks-start.is ∙ ap (λ (x : FrameError). Breaks x) m)))

pub invariant_of-self-2 : goal.invariant_of-self-2
invariant_of-self-2 c = rw c.reserve_rest.ensures (it (goal.at.invariant_of-self-2 c).After-len-2).fits

pub returns-clause-kept : goal.returns-clause-kept
returns-clause-kept c =
    rw c.reserve_rest.ensures (
      (it (goal.at.returns-clause-kept c).After-len-2).fed_is ∙ ap (λ (k : Unframed). fed k c.args.piece.now) c.self.view_is,
      ap fault_of (unbroken_tail c.split-next.result.start _ (not_broken c.split-next.result.start c.in_default-start.not-Breaks)),
    )
