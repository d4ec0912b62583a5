use Rattle.breakpoints.proofs.Common.{ap, arith, leb-false, leb-true, nesting, parsed, sym, ◌∙◌}
use Rattle.std.specs.Option.{option_map}
use Rattle.breakpoints.specs.Nodes.{tree_of}
use Rattle.breakpoints.proofs.Deciding.{is_tree, no_tree, none_spelled, some_spelled}
use Rattle.breakpoints.proofs.expr.Expr.parse.Goals as goal

pub returns-in_default : goal.returns-in_default
returns-in_default c = (
  omega (arith, c.if-text-gt-TEXT_LIMIT.false),
  none_spelled c.args.text.now c.as_bytes.result.now _ c.as_bytes.ensures.value
      (ap (option_map (λ tokens. tokens.items)) c.in_default.is) c.in_ok-tokens.ensures,
)

pub returns-in_default-2 : goal.returns-in_default-2
returns-in_default-2 c =
    let spelled = some_spelled c.args.text.now c.as_bytes.result.now _ c.in-Some.tokens.items c.as_bytes.ensures.value
    (ap (option_map (λ tokens. tokens.items)) c.in-Some.is) c.in_ok-tokens.ensures in (
      omega (arith, c.if-text-gt-TEXT_LIMIT.false),
      no_tree c.args.text.now c.in-Some.tokens.items spelled
          (ap parsed (sym c.deref.ensures.value) ∙ sym c.in_ok-root.ensures ∙ ap (option_map tree_of) c.in_default-2.is),
    )

pub returns-then-not-nests_within : goal.returns-then-not-nests_within
returns-then-not-nests_within c =
    let spelled = some_spelled c.args.text.now c.as_bytes.result.now _ c.in-Some.tokens.items c.as_bytes.ensures.value
    (ap (option_map (λ tokens. tokens.items)) c.in-Some.is) c.in_ok-tokens.ensures in
    let root = c.in-Some-2.root in (
      omega (arith, c.if-text-gt-TEXT_LIMIT.false),
      (
        tree_of root,
        (
          is_tree c.args.text.now c.in-Some.tokens.items (tree_of root) spelled
              (ap parsed (sym c.deref.ensures.value) ∙ sym c.in_ok-root.ensures ∙ ap (option_map tree_of) c.in-Some-2.is),
          leb-false
              (nesting (tree_of root)) 64 (sym c.nests_within.ensures ∙ c.if-not-nests_within.true),
        ),
      ),
    )

pub returns : goal.returns
returns c =
    let spelled = some_spelled c.args.text.now c.as_bytes.result.now _ c.in-Some.tokens.items c.as_bytes.ensures.value
    (ap (option_map (λ tokens. tokens.items)) c.in-Some.is) c.in_ok-tokens.ensures in
    let root = c.in-Some-2.root in (
      omega (arith, c.if-text-gt-TEXT_LIMIT.false),
      (
        is_tree c.args.text.now c.in-Some.tokens.items (tree_of root) spelled
            (ap parsed (sym c.deref.ensures.value) ∙ sym c.in_ok-root.ensures ∙ ap (option_map tree_of) c.in-Some-2.is),
        leb-true
            (nesting (tree_of root)) 64 (sym c.nests_within.ensures ∙ c.if-not-nests_within.false),
      ),
    )
