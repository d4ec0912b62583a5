-- The tree of tokens is found, and what is found is their tree.
use Rattle.breakpoints.proofs.Common.{[], And, and_parts, AndThen, ap, append-nil, append_assoc, arith, Before, Binary, binding, Bool, Bracket, closed, closed_at, cond, Empty, Enclosed, ended, ended_at, Equal, false, finished_on, follows, Full, Greater, GreaterEqual, Grouped, grouped, groups, Infix, Inside, joined, le-leb, le-ltb, leb, leb-true, LeftOf, Less, LessEqual, level_of, List, lt-ltb, ltb, ltb-false, ltb-true, Minus, None, NotEqual, Number, Open, opens, Option, Or, OrElse, parsed, parsed_from, Pc, Place, Plus, refl, Register, Round, shifted_on, ShiftLeft, ShiftRight, Some, Square, Stack, subst, sym, Times, Token, token_before, tokens_of, Tree, true, Unary, Xor, ℕ, ⊤, ◌&&◌, ◌++◌, ◌<◌, ◌∙◌, ◌∷◌, ◌≡◌, ◌≤◌}
use Rattle.breakpoints.specs.declared.token.Prefix.{Prefix}
use Rattle.breakpoints.specs.declared.token.Prefix.TheVariants.{Negate, Complement, Not}
use Rattle.breakpoints.specs.declared.token.Token.TheVariants as t

level_small : (operator : Infix) → level_of operator ≤ 10
level_small OrElse = omega arith
level_small _ = omega arith

-- ---- a tree is found

-- What waits binds looser than this level.
abbrev Looser : Stack → ℕ → Type 0
Looser Empty level = ⊤
Looser (Before operator stack) level = 10 < level
Looser (Inside bracket stack) level = ⊤
Looser (LeftOf left operator stack) level = level_of operator < level

looser_more : (stack : Stack) (level more : ℕ) → level ≤ more → Looser stack level → Looser stack more
looser_more Empty level more h l = tt
looser_more (Before operator stack) level more h l = omega (arith, h, l)
looser_more (Inside bracket stack) level more h l = tt
looser_more (LeftOf left operator stack) level more h l = omega (arith, h, l)

-- What follows binds no tighter than this level.
abbrev NoTighter : List Token → ℕ → Type 0
NoTighter [] level = ⊤
NoTighter ((t.Infix operator) ∷ rest) level = level_of operator ≤ level
NoTighter _ level = ⊤

no_tighter_more : (rest : List Token) (level more : ℕ) → level ≤ more → NoTighter rest level → NoTighter rest more
no_tighter_more [] level more h l = tt
no_tighter_more ((t.Infix operator) ∷ rest) level more h l = omega (arith, h, l)
no_tighter_more _ level more h l = tt

-- what waits looser stays
stays : (stack : Stack) (level : ℕ) (operand : Tree) → level ≤ 10 → Looser stack level
    → grouped level stack operand ≡ record { stack = stack; operand = operand }
stays Empty level operand small l = refl
stays (Before operator stack) level operand small l = absurd (omega (arith, small, l))
stays (Inside bracket stack) level operand small l = refl
stays (LeftOf left operator stack) level operand small l = let e : ltb (level_of operator) level ≡ true = lt-ltb _ _ l in rw e refl

-- two places where the same is grouped at each level that may follow are the same
abbrev Alike : ℕ → Stack → Tree → Stack → Tree → Type 0
Alike level stack operand other tree = (at : ℕ) → at ≤ level → grouped at stack operand ≡ grouped at other tree

alike : (rest : List Token) (level : ℕ) (stack : Stack) (operand : Tree) (other : Stack) (tree : Tree) → NoTighter rest level
    → Alike level stack operand other tree → parsed_from (Some (Full stack operand)) rest ≡ parsed_from (Some (Full other tree)) rest
alike [] level stack operand other tree n h = ap ended_at (h 0 (omega arith))
alike ((t.Infix operator) ∷ rest) level stack operand other tree n h =
    ap (λ g. parsed_from (Some (joined operator g)) rest) (h (level_of operator) n)
alike ((t.Close bracket) ∷ rest) level stack operand other tree n h = ap (λ g. parsed_from (closed_at bracket g) rest) (h 0 (omega arith))
alike _ level stack operand other tree n h = refl

opened : (operator : Prefix) (stack : Stack) → opens stack (token_before operator) ≡ Some (Open (Before operator stack))
opened Negate stack = refl
opened Complement stack = refl
opened Not stack = refl

closes : (bracket : Bracket) (operand : Tree) (stack : Stack)
    → closed bracket operand (Inside bracket stack) ≡ Some (Full stack (Enclosed bracket operand))
closes Round operand stack = refl
closes Square operand stack = refl

-- The tokens of a tree lead from where an operand is wanted to where the tree is that operand.
pub found : (tree : Tree) (stack : Stack) (rest : List Token) → groups tree ≡ true → Looser stack (binding tree)
    → NoTighter rest (binding tree) → parsed_from (Some (Open stack)) (tokens_of tree ++ rest) ≡ parsed_from (Some (Full stack tree)) rest
found (Number n) stack rest g l h = refl
found (Register r) stack rest g l h = refl
found Pc stack rest g l h = refl
found (Unary operator operand) stack rest g l h =
    let parts = and_parts (groups operand) (ltb 10 (binding operand)) g in
    let tight : 10 < binding operand = ltb-true 10 (binding operand) parts.1 in
    let first : parsed_from (Some (Open stack)) (token_before operator ∷ tokens_of operand ++ rest) ≡ parsed_from
    (Some (Open (Before operator stack))) (tokens_of operand ++ rest) = ap (λ p. parsed_from p (tokens_of operand ++ rest))
    (opened operator stack) in
    let level = binding operand in
    let top : NoTighter rest level = no_tighter_ten rest 11 level (omega (arith, tight)) h in
    first ∙ found operand (Before operator stack) rest parts.0 tight top
    ∙ alike rest level (Before operator stack) operand stack (Unary operator operand) top (λ at e. refl)
  where
    no_tighter_ten : (rest : List Token) (level more : ℕ) → 10 ≤ more → NoTighter rest level → NoTighter rest more
    no_tighter_ten [] level more e n = tt
    no_tighter_ten ((t.Infix operator) ∷ rest) level more e n = omega (arith, e, level_small operator)
    no_tighter_ten ((t.Number m) ∷ rest) level more e n = tt
    no_tighter_ten ((t.Register r) ∷ rest) level more e n = tt
    no_tighter_ten (t.Pc ∷ rest) level more e n = tt
    no_tighter_ten (t.Tilde ∷ rest) level more e n = tt
    no_tighter_ten (t.Bang ∷ rest) level more e n = tt
    no_tighter_ten ((t.Open bracket) ∷ rest) level more e n = tt
    no_tighter_ten ((t.Close bracket) ∷ rest) level more e n = tt
found (Binary operator left right) stack rest g l h =
    let level = level_of operator in
    let sides = and_parts (groups left && leb level (binding left)) (groups right && ltb level (binding right)) g in
    let lefts = and_parts (groups left) (leb level (binding left)) sides.0 in
    let rights = and_parts (groups right) (ltb level (binding right)) sides.1 in
    let at_least : level ≤ binding left = leb-true level (binding left) lefts.1 in
    let tighter : level < binding right = ltb-true level (binding right) rights.1 in
    let after : List Token = t.Infix operator ∷ (tokens_of right ++ rest) in
    let first : parsed_from (Some (Open stack)) ((tokens_of left ++ t.Infix operator ∷ tokens_of right) ++ rest) ≡ parsed_from
    (Some (Open stack)) (tokens_of left ++ after) = ap (parsed_from (Some (Open stack)))
    (append_assoc (tokens_of left) (t.Infix operator ∷ tokens_of right) rest) in
    let to_left : parsed_from (Some (Open stack)) (tokens_of left ++ after) ≡ parsed_from
    (Some (Full stack left)) after = found left stack after lefts.0 (looser_more stack level (binding left) at_least l) at_least in
    let on : parsed_from (Some (Full stack left)) after ≡ parsed_from (Some (Open (LeftOf left operator stack)))
    (tokens_of right ++ rest) = ap (λ (x : Grouped). parsed_from (Some (joined operator x)) (tokens_of right ++ rest))
    (stays stack level left (level_small operator) l) in
    let next : NoTighter rest (binding right) = no_tighter_more rest level (binding right) (omega (arith, tighter)) h in
    let to_right : parsed_from (Some (Open (LeftOf left operator stack))) (tokens_of right ++ rest) ≡ parsed_from
    (Some (Full (LeftOf left operator stack) right)) rest = found right (LeftOf left operator stack) rest rights.0 tighter next in
    first ∙ to_left ∙ on ∙ to_right
    ∙ alike rest level (LeftOf left operator stack) right stack (Binary operator left right) h
    (λ at e. let no : ltb level at ≡ false = le-ltb level at e in rw no refl)
found (Enclosed bracket inner) stack rest g l h =
    let after : List Token = t.Close bracket ∷ rest in
    let first : parsed_from (Some (Open stack)) ((t.Open bracket ∷ (tokens_of inner ++ t.Close bracket ∷ [])) ++ rest) ≡ parsed_from
    (Some (Open (Inside bracket stack))) (tokens_of inner ++ after) = ap (parsed_from (Some (Open (Inside bracket stack))))
    (append_assoc (tokens_of inner) (t.Close bracket ∷ []) rest) in
    first ∙ found inner (Inside bracket stack) after g tt tt ∙ ap (λ p. parsed_from p rest) (closes bracket inner stack)

pub tree_found : (tree : Tree) → groups tree ≡ true → parsed (tokens_of tree) ≡ Some tree
tree_found tree g = ap parsed (sym (append-nil (tokens_of tree))) ∙ found tree Empty [] g tt tt

-- ---- what is found is a tree of the tokens

abbrev waiting_tokens : Stack → List Token
waiting_tokens Empty = []
waiting_tokens (Before operator stack) = waiting_tokens stack ++ token_before operator ∷ []
waiting_tokens (Inside bracket stack) = waiting_tokens stack ++ t.Open bracket ∷ []
waiting_tokens (LeftOf left operator stack) = waiting_tokens stack ++ (tokens_of left ++ t.Infix operator ∷ [])

abbrev WaitsWell : Stack → Type 0
WaitsWell Empty = ⊤
WaitsWell (Before operator stack) = WaitsWell stack
WaitsWell (Inside bracket stack) = WaitsWell stack
WaitsWell (LeftOf left operator stack) =
    WaitsWell stack × ((groups left ≡ true) × ((level_of operator ≤ binding left) × Looser stack (level_of operator)))

-- the tokens so far are these, and all is grouped well
pub record Holds (stack : Stack) (operand : Tree) (done : List Token) : Type 0 where
  pub waits : WaitsWell stack
  pub grouped_well : groups operand ≡ true
  pub looser : Looser stack (binding operand)
  pub tokens : waiting_tokens stack ++ tokens_of operand ≡ done

pub record Waits (stack : Stack) (done : List Token) : Type 0 where
  pub waits : WaitsWell stack
  pub tokens : waiting_tokens stack ≡ done

abbrev Right : Place → List Token → Type 0
Right (Open stack) done = Waits stack done
Right (Full stack operand) done = Holds stack operand done × (binding operand ≡ 11)

-- grouped at a level: the same tokens, and what waits is looser than the level, which the operand reaches
pub record GroupedWell (level : ℕ) (g : Grouped) (done : List Token) : Type 0 where
  pub holds : Holds g.stack g.operand done
  pub below : level ≤ 10 → Looser g.stack level
  pub reaches : level ≤ binding g.operand

looser_before : (stack : Stack) (operator : Prefix) → Looser stack 11 → Looser stack (binding (Unary operator Pc))
looser_before stack operator l = l

grouped_well : (level : ℕ) (stack : Stack) (operand : Tree) (done : List Token) → level ≤ binding operand → level ≤ 10
    → Holds stack operand done → GroupedWell level (grouped level stack operand) done
grouped_well level Empty operand done r small h = record { holds = h; below = λ e. tt; reaches = r }
grouped_well level (Inside bracket stack) operand done r small h = record { holds = h; below = λ e. tt; reaches = r }
grouped_well level (Before operator stack) operand done r small h =
    let tight : 10 < binding operand = h.looser in
    grouped_well level stack (Unary operator operand) done (omega (arith, small)) small (record {
      waits = h.waits;
      grouped_well = rw h.grouped_well (lt-ltb 10 (binding operand) tight);
      looser = top stack;
      tokens = sym (append_assoc (waiting_tokens stack) (token_before operator ∷ []) (tokens_of operand)) ∙ h.tokens;
    })
  where
    top : (s : Stack) → Looser s 11
    top Empty = tt
    top (Before other s) = omega arith
    top (Inside bracket s) = tt
    top (LeftOf left other s) = omega (arith, level_small other)
grouped_well level (LeftOf left operator stack) operand done r small h =
    let P : Bool → Type 0 = λ b. ltb (level_of operator) level ≡ b
    → GroupedWell level (cond b (record { stack = LeftOf left operator stack; operand = operand })
    (grouped level stack (Binary operator left operand))) done in
    let kept : ltb (level_of operator) level ≡ true
    → GroupedWell level (record { stack = LeftOf left operator stack; operand = operand }) done =
    λ b. record { holds = h; below = λ e. ltb-true (level_of operator) level b; reaches = r } in
    let joins : ltb (level_of operator) level ≡ false → GroupedWell level (grouped level stack (Binary operator left operand)) done = λ b.
    let reached : level ≤ level_of operator = ltb-false (level_of operator) level b in
    grouped_well level stack (Binary operator left operand) done reached small (record {
      waits = h.waits.0;
      grouped_well =
          both_sides (groups left) (leb (level_of operator) (binding left)) (groups operand)
          (ltb (level_of operator) (binding operand)) h.waits.1.0 (le-leb (level_of operator) (binding left) h.waits.1.1.0) h.grouped_well
          (lt-ltb (level_of operator) (binding operand) h.looser);
      looser = h.waits.1.1.1;
      tokens = regroup (waiting_tokens stack) (tokens_of left) (t.Infix operator) (tokens_of operand) ∙ h.tokens;
    }) in
    let go : P (ltb (level_of operator) level) = elim (ltb (level_of operator) level) as P [ true ↦ kept | false ↦ joins ] in
    go refl
  where
    both_sides : (a b c d : Bool) → a ≡ true → b ≡ true → c ≡ true → d ≡ true → ((a && b) && (c && d)) ≡ true
    both_sides a b c d p q r s = rw p (rw q (rw r s))

    regroup : (w l : List Token) (o : Token) (r : List Token) → w ++ (l ++ o ∷ r) ≡ (w ++ (l ++ o ∷ [])) ++ r
    regroup w l o r = sym (append_assoc w (l ++ o ∷ []) r ∙ ap (λ (x : List Token). w ++ x) (append_assoc l (o ∷ []) r))

-- one token more
abbrev Goes : Option Place → List Token → Type 0
Goes None done = ⊤
Goes (Some place) done = Right place done

leaf : (stack : Stack) (operand : Tree) (token : Token) (done : List Token) → tokens_of operand ≡ token ∷ [] → groups operand ≡ true
    → binding operand ≡ 11 → Waits stack done → Holds stack operand (done ++ token ∷ []) × (binding operand ≡ 11)
leaf stack operand token done e g b h = (
  record {
    waits = h.waits;
    grouped_well = g;
    looser = rw b (top stack);
    tokens = ap (λ (x : List Token). waiting_tokens stack ++ x) e ∙ ap (λ (x : List Token). x ++ token ∷ []) h.tokens;
  },
  b,
) where
  top : (s : Stack) → Looser s 11
  top Empty = tt
  top (Before other s) = omega arith
  top (Inside bracket s) = tt
  top (LeftOf left other s) = omega (arith, level_small other)

before_more : (stack : Stack) (operator : Prefix) (done : List Token) → Waits stack done
    → Waits (Before operator stack) (done ++ token_before operator ∷ [])
before_more stack operator done h = record { waits = h.waits; tokens = ap (λ (x : List Token). x ++ token_before operator ∷ []) h.tokens }

opens_right : (stack : Stack) (token : Token) (done : List Token) → Waits stack done → Goes (opens stack token) (done ++ token ∷ [])
opens_right stack (t.Number n) done h = leaf stack (Number n) (t.Number n) done refl refl refl h
opens_right stack (t.Register r) done h = leaf stack (Register r) (t.Register r) done refl refl refl h
opens_right stack t.Pc done h = leaf stack Pc t.Pc done refl refl refl h
opens_right stack (t.Infix Minus) done h = before_more stack Negate done h
opens_right stack (t.Infix OrElse) done h = tt
opens_right stack (t.Infix AndThen) done h = tt
opens_right stack (t.Infix Or) done h = tt
opens_right stack (t.Infix Xor) done h = tt
opens_right stack (t.Infix And) done h = tt
opens_right stack (t.Infix Equal) done h = tt
opens_right stack (t.Infix NotEqual) done h = tt
opens_right stack (t.Infix Less) done h = tt
opens_right stack (t.Infix LessEqual) done h = tt
opens_right stack (t.Infix Greater) done h = tt
opens_right stack (t.Infix GreaterEqual) done h = tt
opens_right stack (t.Infix ShiftLeft) done h = tt
opens_right stack (t.Infix ShiftRight) done h = tt
opens_right stack (t.Infix Plus) done h = tt
opens_right stack (t.Infix Times) done h = tt
opens_right stack t.Tilde done h = before_more stack Complement done h
opens_right stack t.Bang done h = before_more stack Not done h
opens_right stack (t.Open bracket) done h = record { waits = h.waits; tokens = ap (λ (x : List Token). x ++ t.Open bracket ∷ []) h.tokens }
opens_right stack (t.Close bracket) done h = tt

joined_right : (operator : Infix) (g : Grouped) (done : List Token) → GroupedWell (level_of operator) g done
    → Right (joined operator g) (done ++ t.Infix operator ∷ [])
joined_right operator g done h = record {
  waits = (h.holds.waits, (h.holds.grouped_well, (h.reaches, h.below (level_small operator))));
  tokens =
      sym (append_assoc (waiting_tokens g.stack) (tokens_of g.operand) (t.Infix operator ∷ []))
      ∙ ap (λ (x : List Token). x ++ t.Infix operator ∷ []) h.holds.tokens;
}

enclosed_right : (bracket : Bracket) (operand : Tree) (stack : Stack) (done : List Token) → Holds (Inside bracket stack) operand done
    → Holds stack (Enclosed bracket operand) (done ++ t.Close bracket ∷ [])
enclosed_right bracket operand stack done h = record {
  waits = h.waits;
  grouped_well = h.grouped_well;
  looser = top stack;
  tokens =
      regroup (waiting_tokens stack) (t.Open bracket) (tokens_of operand) (t.Close bracket)
      ∙ ap (λ (x : List Token). x ++ t.Close bracket ∷ []) h.tokens;
} where
  top : (s : Stack) → Looser s 11
  top Empty = tt
  top (Before other s) = omega arith
  top (Inside other s) = tt
  top (LeftOf left other s) = omega (arith, level_small other)

  regroup : (w : List Token) (o : Token) (r : List Token) (c : Token) → w ++ (o ∷ (r ++ c ∷ [])) ≡ ((w ++ o ∷ []) ++ r) ++ c ∷ []
  regroup w o r c = sym (append_assoc (w ++ o ∷ []) r (c ∷ []) ∙ append_assoc w (o ∷ []) (r ++ c ∷ []))

closed_right : (bracket : Bracket) (operand : Tree) (stack : Stack) (done : List Token) → Holds stack operand done
    → Goes (closed bracket operand stack) (done ++ t.Close bracket ∷ [])
closed_right Round operand (Inside Round stack) done h = (enclosed_right Round operand stack done h, refl)
closed_right Square operand (Inside Square stack) done h = (enclosed_right Square operand stack done h, refl)
closed_right Round operand (Inside Square stack) done h = tt
closed_right Square operand (Inside Round stack) done h = tt
closed_right Round operand Empty done h = tt
closed_right Square operand Empty done h = tt
closed_right Round operand (Before operator stack) done h = tt
closed_right Square operand (Before operator stack) done h = tt
closed_right Round operand (LeftOf left operator stack) done h = tt
closed_right Square operand (LeftOf left operator stack) done h = tt

follows_right : (stack : Stack) (operand : Tree) (token : Token) (done : List Token) → Holds stack operand done → binding operand ≡ 11
    → Goes (follows stack operand token) (done ++ token ∷ [])
follows_right stack operand (t.Infix operator) done h b =
    joined_right operator _ done
    (grouped_well (level_of operator) stack operand done (omega (arith, b, level_small operator)) (level_small operator) h)
follows_right stack operand (t.Close bracket) done h b =
    closed_right bracket _ _ done (grouped_well 0 stack operand done (omega arith) (omega arith) h).holds
follows_right stack operand (t.Number n) done h b = tt
follows_right stack operand _ done h b = tt

shifted_right : (place : Option Place) (token : Token) (done : List Token) → Goes place done
    → Goes (shifted_on place token) (done ++ token ∷ [])
shifted_right None token done h = tt
shifted_right (Some (Open stack)) token done h = opens_right stack token done h
shifted_right (Some (Full stack operand)) token done h = follows_right stack operand token done h.0 h.1

tree_or : Tree → Option Tree → Tree
tree_or d None = d
tree_or d (Some tree) = tree

abbrev IsTree : Tree → List Token → Type 0
IsTree tree tokens = (tokens_of tree ≡ tokens) × (groups tree ≡ true)

ended_right : (stack : Stack) (operand tree : Tree) (done : List Token) → Holds stack operand done → ended operand stack ≡ Some tree
    → IsTree tree done
unfolding tree_or
ended_right Empty operand tree done h e =
    let same : operand ≡ tree = ap (tree_or operand) e in subst (λ x. IsTree x done) same (h.tokens, h.grouped_well)
ended_right (Before operator stack) operand tree done h e = cc
ended_right (Inside bracket stack) operand tree done h e = cc
ended_right (LeftOf left operator stack) operand tree done h e = cc

finished_right : (place : Option Place) (tree : Tree) (done : List Token) → Goes place done → finished_on place ≡ Some tree
    → IsTree tree done
finished_right None tree done h e = cc
finished_right (Some (Open stack)) tree done h e = cc
finished_right (Some (Full stack operand)) tree done h e =
    ended_right _ _ tree done (grouped_well 0 stack operand done (omega arith) (omega arith) h.0).holds e

parsed_right : (tokens : List Token) (place : Option Place) (tree : Tree) (done : List Token) → Goes place done
    → parsed_from place tokens ≡ Some tree → IsTree tree (done ++ tokens)
parsed_right [] place tree done h e = subst (IsTree tree) (sym (append-nil done)) (finished_right place tree done h e)
parsed_right (token ∷ tokens) place tree done h e =
    subst (IsTree tree) (append_assoc done (token ∷ []) tokens)
    (parsed_right tokens (shifted_on place token) tree (done ++ token ∷ []) (shifted_right place token done h) e)

pub found_is_tree : (tokens : List Token) (tree : Tree) → parsed tokens ≡ Some tree → (tokens_of tree ≡ tokens) × (groups tree ≡ true)
found_is_tree tokens tree e =
    let start : Waits Empty [] = record { waits = tt; tokens = refl } in parsed_right tokens (Some (Open Empty)) tree [] start e
