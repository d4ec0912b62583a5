use Rattle.std.proofs.Common.{rules, string_bytes}
use Rattle.execution.proofs.Told.{next_register}

pub loop-number-preserved : Rattle.execution.proofs.registers.registers_text.Goals.loop-number-preserved
loop-number-preserved c =
    next_register c.args.hart.now.x c.loop-number.number (string_bytes c.loop-number.told)
    (string_bytes c.push_register-in-loop-number.new.told) _ (search rules)
    (rw c.reg_name.ensures at c.in_ok-push_register-2.ensures) c.loop-number.invariant
