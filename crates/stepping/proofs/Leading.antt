-- The past leads to where the machine is, and one that is undone is one less.
use Rattle.stepping.proofs.Common.{[], Advances, ap, arith, Course, course_of, Debugged, Instr, length, List, machine_of, noted, Ok, Position, position_of, refl, subst, suc, sym, take, undone_by, undone_to, zero, ℕ, ◌∙◌, ◌∷◌, ◌≡◌, ◌≤◌}
use Rattle.course.specs.Positions.{gone_back}
use Rattle.stepping.specs.Leading.{BackAndForth, LeadTo, Makes, MovesFromOldest, MovesTo, OneLess, PastLeads, TicksLead, back, oldest, oldest_of}
use Rattle.stepping.proofs.Advancing.{by_move}
use Rattle.stepping.proofs.Cases.{back_leaves, back_of, by_tick}
use Rattle.stepping.proofs.Determined.{one_decoded, same_moves}

-- ---- a position makes one move

pub moves_equal : (b x y : Position) → MovesTo b x → MovesTo b y → x ≡ y
moves_equal b x y p q =
    let m = machine_of b.hart b.memory in
    let same = same_moves m p.answer q.answer x.hart y.hart x.memory y.memory p.moved q.moved in
    let instr = one_decoded m p.instr q.instr p.decoded q.decoded in
    let calls : x.calls ≡ y.calls = p.calls ∙ ap (λ (i : Instr). noted b.calls i b.hart.pc) instr ∙ sym q.calls in
    λ j. record { hart = same.hart j; memory = same.memory j; calls = calls j }

-- ---- a tick

shorter : (n : ℕ) (past : List Position) (now : Position) → LeadTo past now → LeadTo (take n past) now
shorter zero past now h = tt
shorter (suc n) [] now h = tt
shorter (suc n) (b ∷ past) now h = (h.0, shorter n past b h.1)

-- a move more
one_more : (before after : Debugged) → PastLeads (course_of before) → Advances before after → PastLeads (course_of after)
one_more before after h a =
    let move : MovesTo (position_of before) (position_of after) = record {
      instr = a.instr;
      answer = a.answer;
      decoded = a.decoded;
      moved = a.moved;
      retires = a.retires;
      calls = ap (λ (d : Debugged). d.calls) a.leaves;
    } in
    rw (ap (λ (d : Debugged). d.past) a.leaves) (shorter 65536 (position_of before ∷ before.past) (position_of after) (move, h))

-- a move less
undone_course : (past : List Position) (d : Debugged) → d.past ≡ past → course_of (undone_by past d) ≡ undone_to past (course_of d)
undone_course past d e = grind arith

undone_leads : (past : List Position) (c : Course) → LeadTo past c.now → PastLeads c → PastLeads (undone_to past c)
undone_leads past c l h = grind arith

pub ticks_lead : TicksLead
ticks_lead before after answer h t = by_tick before after answer t (λ due x. rw x.1 h)
    (λ due turns x. subst PastLeads
    (sym (ap course_of (back_leaves before after answer x) ∙ undone_course before.past before refl))
    (undone_leads before.past (course_of before) h h))
    (λ due forward m. by_move before after answer (one_more before after h) (λ e. rw e h) m)

-- ---- runs

pub moves_from_oldest : MovesFromOldest
moves_from_oldest c h = go c.past c.now h where
  go : (past : List Position) (now : Position) → LeadTo past now → Makes (length past) (oldest_of past now) now
  go [] now h = refl
  go (b ∷ past) now h = (b, (go past b h.1, h.0))

less_by : (past : List Position) (now : Position) (n : ℕ) → LeadTo past now → length past ≡ suc n → let c : Course =
    record { now = now; past = past } in Makes n (oldest_of past now) (undone_to past c).now × (length (undone_to past c).past ≡ n)
less_by [] now n h e = absurd (omega (arith, e))
less_by (b ∷ past) now n h e =
    let same : length past ≡ n = omega (arith, e) in (rw same at (moves_from_oldest (record { now = b; past = past }) h.1), same)

pub one_less : OneLess
one_less before after tick n h turns due long t =
    let left = back_leaves before after (Ok tick) (back_of before after (Ok tick) due turns t) in
    subst (λ (c : Course). Makes n (oldest (course_of before)) c.now × (length c.past ≡ n))
    (sym (ap course_of left ∙ undone_course before.past before refl)) (less_by before.past (position_of before) n h long)

-- ---- back and forth

-- the first of some moves back apart
back_first : (k : ℕ) (c : Course) → back (suc k) c ≡ back k (gone_back c)
back_first zero c = refl
back_first (suc k) c = ap gone_back (back_first k c)

-- as many moves lead on again
leads_on : (k : ℕ) (past : List Position) (now : Position) → LeadTo past now → k ≤ length past → let c : Course =
    record { now = now; past = past } in Makes k (back k c).now now
leads_on zero past now h le = refl
leads_on (suc k) [] now h le = absurd (omega (arith, le))
leads_on (suc k) (b ∷ past) now h le =
    let first = back_first k (record { now = now; past = b ∷ past }) in
    (b, (subst (λ (c : Course). Makes k c.now b) (sym first) (leads_on k past b h.1 (omega (arith, le))), h.0))

-- and nowhere else
makes_equal : (k : ℕ) (start x y : Position) → Makes k start x → Makes k start y → x ≡ y
makes_equal zero start x y a b = a ∙ sym b
makes_equal (suc k) start x y a b =
    moves_equal b.0 x y (subst (λ (m : Position). MovesTo m x) (makes_equal k start a.0 b.0 a.1.0 b.1.0) a.1.1) b.1.1

pub back_and_forth : BackAndForth
back_and_forth k c after h le r = makes_equal k (back k c).now after c.now r (leads_on k c.past c.now h le)
