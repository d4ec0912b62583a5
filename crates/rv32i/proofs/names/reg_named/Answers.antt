use Rattle.rv32i.proofs.Common.{ap, bytes_eq, List, name_of, refl, sym, ℕ, ◌∙◌}
use Rattle.rv32i.specs.Names.{number_named}
use Rattle.rv32i.proofs.Following.{found_later}
use Rattle.rv32i.proofs.names.reg_named.Goals as goal

pub loop-number-init : goal.loop-number-init
unfolding number_named
loop-number-init c = record { found = refl }

pub loop-number-preserved : goal.loop-number-preserved
loop-number-preserved c = record {
  found =
      found_later (λ (number : ℕ). bytes_eq (name_of number) c.args.name.now) c.loop-number.number 32
      (number_named c.args.name.now) c.loop-number-test.true
      (sym (c.eq.ensures ∙ ap (λ (name : List ℕ). bytes_eq name c.args.name.now) (c.as_bytes.ensures.value ∙ c.reg_name.ensures))
      ∙ c.if-eq.false)
      c.loop-number.invariant.found;
}
