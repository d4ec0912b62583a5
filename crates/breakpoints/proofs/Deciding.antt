-- Tokens and trees together: which texts have a tree, and that it is one.
use Rattle.breakpoints.proofs.Common.{[], ap, IsTokens, lexemes, List, None, Option, parsed, Some, Spelled, SpelledOrNot, subst, sym, Token, tokens_of, Tree, ℕ, ◌∙◌, ◌≡◌}
use Rattle.breakpoints.specs.Texts.{IsTreeOf, TreeIsUnique}
use Rattle.breakpoints.proofs.Dividing.{divides, gone_through}
use Rattle.breakpoints.proofs.Grouping.{found_is_tree, tree_found}
use Rattle.breakpoints.proofs.Same.{spelled_same}

some_or : Tree → Option Tree → Tree
some_or d None = d
some_or d (Some tree) = tree

-- the tokens of a text are found, and then its tree
pub is_tree : (text : List ℕ) (tokens : List Token) (tree : Tree) → Spelled tokens (lexemes [] text) → parsed tokens ≡ Some tree
    → IsTreeOf text tree
is_tree text tokens tree s e =
    let both = found_is_tree tokens tree e in
    record { tokens = subst (λ (x : List Token). IsTokens x text) (sym both.0) (divides text [] tokens s); grouped = both.1 }

-- the tokens of a text that has a tree
pub spelled_by_tree : (text : List ℕ) (tree : Tree) → IsTreeOf text tree → Spelled (tokens_of tree) (lexemes [] text)
spelled_by_tree text tree h = gone_through (tokens_of tree) text h.tokens

pub no_tree : (text : List ℕ) (tokens : List Token) → Spelled tokens (lexemes [] text) → parsed tokens ≡ None → (tree : Tree)
    → IsTreeOf text tree → ⊥
no_tree text tokens s e tree h =
    let same : tokens_of tree ≡ tokens = spelled_same (tokens_of tree) tokens (lexemes [] text) (spelled_by_tree text tree h) s in
    let some : None ≡ Some tree = sym e ∙ ap parsed (sym same) ∙ tree_found tree h.grouped in cc

pub unique : TreeIsUnique
unfolding some_or
unique text tree other h k =
    let same : tokens_of tree ≡ tokens_of other = spelled_same (tokens_of tree) (tokens_of other) (lexemes [] text)
    (spelled_by_tree text tree h) (spelled_by_tree text other k) in
    let both : Some tree ≡ Some other = sym (tree_found tree h.grouped) ∙ ap parsed same ∙ tree_found other k.grouped in
    ap (some_or tree) both

pub no_tokens : (text : List ℕ) → ((tokens : List Token) → Spelled tokens (lexemes [] text) → ⊥) → (tree : Tree) → IsTreeOf text tree → ⊥
no_tokens text none tree h = none (tokens_of tree) (spelled_by_tree text tree h)

-- ---- the same, of what the code has found

pub none_spelled : (text bytes : List ℕ) (found : Option (List Token)) → bytes ≡ text → found ≡ None → SpelledOrNot bytes found
    → (tree : Tree) → IsTreeOf text tree → ⊥
none_spelled text bytes found same none h =
    no_tokens text (subst (λ (x : List ℕ). (tokens : List Token) → Spelled tokens (lexemes [] x) → ⊥) same
    (subst (SpelledOrNot bytes) none h))

pub some_spelled : (text bytes : List ℕ) (found : Option (List Token)) (tokens : List Token) → bytes ≡ text → found ≡ Some tokens
    → SpelledOrNot bytes found → Spelled tokens (lexemes [] text)
some_spelled text bytes found tokens same some h =
    subst (λ (x : List ℕ). Spelled tokens (lexemes [] x)) same (subst (SpelledOrNot bytes) some h)
