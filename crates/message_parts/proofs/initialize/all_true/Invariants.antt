use Rattle.message_parts.proofs.Common.{drop, map, members_tokens, ◌++◌, ◌≡◌}
use Rattle.message_parts.specs.Initialize.{all_true}

abbrev pub invariant-loop-name : Rattle.message_parts.proofs.initialize.all_true.Given.invariant-loop-name
invariant-loop-name l = record {
  before : l.out.before ≡ l.initial.out.before;
  rest : l.out.tokens ++ members_tokens (all_true (map (λ n. n.now) (drop l.name-index l.names))) ≡ l.initial.out.tokens ++ members_tokens (all_true (map (λ n. n.now) l.names));
}
