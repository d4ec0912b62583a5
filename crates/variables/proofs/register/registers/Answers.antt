use Rattle.std.proofs.Common.{arith}
use Rattle.variables.proofs.Ranges.{register_on, registers_done}
use Rattle.variables.proofs.register.registers.Goals as goal

pub loop-number-preserved : goal.loop-number-preserved
loop-number-preserved c = record {
  listed =
      register_on c.args.hart.now c.loop-number.number c.reg_name.result.now c.in_ok-variable.field-0 c.loop-number.variables.items c.push.new.self.items c.reg_name.ensures c.in_ok-variable.ensures c.in_ok-push.ensures.items c.loop-number.invariant.listed;
  within = omega (arith, c.loop-number-test.true);
}

pub returns : goal.returns
returns c =
    registers_done c.args.hart.now c.loop-number.number c.in_ok-variable-2.field-0 c.loop-number.variables.items c.push-2.new.self.items c.loop-number-test.false c.loop-number.invariant.within c.in_ok-variable-2.ensures c.in_ok-push-2.ensures.items c.loop-number.invariant.listed
