-- Whether a move is recorded decides the answer to a request to go back.
use Rattle.std.proofs.Common.{◌≡◌, ◌≢◌, List, [], ◌∷◌, length, None, refl, arith}
use Rattle.course.specs.Positions.{Position}
use Rattle.debuggee.specs.Programs.{resumed}
use Rattle.protocol.specs.declared.refusal.Refusal.TheVariants.{NoHistory}
use Rattle.replies.specs.declared.response.ResponseBody.TheVariants as body
use Rattle.stepping.specs.declared.goal.Goal.{Goal}
use Rattle.handlers.specs.declared.terms.Terms.{Terms}
use Rattle.handlers.specs.Given.{Given}
use Rattle.handlers.specs.GoingBack.{success_by}
use Rattle.handlers.specs.Successes.{refusing, resuming}

-- none is
pub has_none : (past : List Position) (given : Given) (terms : Terms) (goal : Goal) → length past ≡ 0
    → refusing given terms NoHistory None ≡ success_by past given terms goal
has_none [] given terms goal e = refl
has_none (before ∷ past) given terms goal e = absurd (omega (arith, e))

-- one is
pub has_some : (past : List Position) (given : Given) (terms : Terms) (goal : Goal) → length past ≢ 0
    → resuming given terms (resumed goal) body.Empty ≡ success_by past given terms goal
has_some [] given terms goal ne = absurd (ne refl)
has_some (before ∷ past) given terms goal ne = refl
