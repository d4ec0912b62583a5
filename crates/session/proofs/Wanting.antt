-- The file that the answer to the first request wants.
use Rattle.session.proofs.Common.{arith, first_pending, first_refusal, Link, List, None, Now, Option, path_in, Pending, refusals, Run, run_of, Some, wanted_on, ℕ, ◌≡◌}

pub wants_first : (now : Now) (link : Link) (run : Option Run) (p : Pending) (path : Option (List ℕ)) → now.link ≡ Some link
    → run ≡ run_of now.debuggee.program → Some p ≡ first_pending now.arrivals.pending
    → path ≡ path_in (first_refusal (refusals run link.terms.phase p)) p.ask → path ≡ wanted_on now now.link
wants_first now link run p path is_link is_run first e = rw (is_link, ← is_run) (grind arith)

pub wants_none : (now : Now) (link : Link) → now.link ≡ Some link → None ≡ first_pending now.arrivals.pending
    → None ≡ wanted_on now now.link
wants_none now link is_link first = rw is_link (grind arith)
