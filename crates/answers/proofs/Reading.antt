-- Which expression a text is, as a function and by the rules.
use Rattle.answers.proofs.Common.{[], ap, arith, Bool, cond, Err, ExpressionsAreRead, false, if_shallow, IsExpression, IsTreeOf, le-leb, leb, leb-true, length, List, nesting, None, Option, Parses, refl, Some, subst, Token, tokens_of as tokens_in, Tree, tree_among, true, ℕ, ◌<◌, ◌∙◌, ◌≡◌, ◌≤◌}
use Rattle.breakpoints.specs.Scanning.{lexemes}
use Rattle.breakpoints.specs.declared.error.ExprError.TheVariants.{Syntax, TooDeep, TooLong}
use Rattle.breakpoints.proofs.Deciding.{is_tree, spelled_by_tree, unique}
use Rattle.breakpoints.proofs.Grouping.{tree_found}
use Rattle.answers.specs.Expressions.{expression_of, tokens_of}
use Rattle.answers.proofs.Tokens.{tokens_found, tokens_spelled}

-- ---- within no limits

found_tree : (text : List ℕ) (tree : Tree) → IsTreeOf text tree → tree_among (tokens_of (lexemes [] text)) ≡ Some tree
found_tree text tree h =
    ap tree_among (tokens_found (tokens_in tree) (lexemes [] text) (spelled_by_tree text tree h)) ∙ tree_found tree h.grouped

tree_is : (text : List ℕ) (tree : Tree) (found : Option (List Token)) → tokens_of (lexemes [] text) ≡ found → tree_among found ≡ Some tree
    → IsTreeOf text tree
tree_is text tree None e f = cc
tree_is text tree (Some tokens) e f = is_tree text tokens tree (tokens_spelled (lexemes [] text) tokens e) f

-- ---- within the limits

shallow_is : (found : Option Tree) (tree : Tree) → if_shallow found ≡ Some tree → (found ≡ Some tree) × (nesting tree ≤ 64)
shallow_is None tree e = cc
shallow_is (Some other) tree e =
    let P : Bool → Type 0 = λ v. leb (nesting other) 64 ≡ v → cond v (Some other) None ≡ Some tree
    → (Some other ≡ Some tree) × (nesting tree ≤ 64) in
    let go : P (leb (nesting other) 64) = elim (leb (nesting other) 64) as P [
      | true ↦ λ v f. (f, subst (λ (x : Tree). nesting x ≤ 64) (same other tree f) (leb-true (nesting other) 64 v))
      | false ↦ λ v f. absurd (none tree f)
    ] in go refl e
  where
    same : (other tree : Tree) → Some other ≡ Some tree → other ≡ tree
    same other tree f = cc

    none : (tree : Tree) → None ≡ Some tree → ⊥
    none tree f = cc

pub is_expression : (text : List ℕ) (tree : Tree) → expression_of text ≡ Some tree → IsExpression text tree
unfolding expression_of
is_expression text tree e =
    let found = tree_among (tokens_of (lexemes [] text)) in
    let P : Bool → Type 0 = λ v. leb (length text) 1024 ≡ v → cond v (if_shallow found) None ≡ Some tree → IsExpression text tree in
    let go : P (leb (length text) 1024) = elim (leb (length text) 1024) as P [
      | true ↦ λ v f. let both =
          shallow_is found tree f in (leb-true (length text) 1024 v, (tree_is text tree (tokens_of (lexemes [] text)) refl both.0, both.1))
      | false ↦ λ v f. absurd (none tree f)
    ] in go refl e
  where
    none : (tree : Tree) → None ≡ Some tree → ⊥
    none tree f = cc

pub expression_found : (text : List ℕ) (tree : Tree) → IsExpression text tree → expression_of text ≡ Some tree
unfolding expression_of
expression_found text tree h =
    let short : leb (length text) 1024 ≡ true = le-leb (length text) 1024 h.0 in
    let shallow : leb (nesting tree) 64 ≡ true = le-leb (nesting tree) 64 h.1.1 in
    ap (λ v. cond v (if_shallow (tree_among (tokens_of (lexemes [] text)))) None) short ∙ ap if_shallow (found_tree text tree h.1.0)
    ∙ ap (λ v. cond v (Some tree) None) shallow

pub expressions_are_read : ExpressionsAreRead
expressions_are_read text tree = (is_expression text tree, expression_found text tree)

-- ---- as the code reads it

pub no_expression : (text : List ℕ) (found : Option Tree) → expression_of text ≡ found → ((tree : Tree) → IsExpression text tree → ⊥)
    → found ≡ None
no_expression text None e none = refl
no_expression text (Some tree) e none = absurd (none tree (is_expression text tree e))

-- what the parser's refusals say
pub syntax : (text : List ℕ) → Parses text (Err Syntax) → expression_of text ≡ None
syntax text h = no_expression text (expression_of text) refl (λ tree e. h.1 tree e.1.0)

pub too_long : (text : List ℕ) → Parses text (Err TooLong) → expression_of text ≡ None
too_long text h = no_expression text (expression_of text) refl (λ tree e. omega (arith, h, e.0))

pub too_deep : (text : List ℕ) → Parses text (Err TooDeep) → expression_of text ≡ None
too_deep text h =
    no_expression text (expression_of text) refl (λ tree e. deeper tree h.1.0 (unique text tree h.1.0 e.1.0 h.1.1.0) e.1.1 h.1.1.1) where
      deeper : (tree other : Tree) → tree ≡ other → nesting tree ≤ 64 → 64 < nesting other → ⊥
      deeper tree other e a b = let c : nesting tree ≡ nesting other = ap nesting e in omega (arith, a, b, c)
