use Rattle.breakpoints.proofs.Common.{arith, counted, sym, vec_capacity, ◌∙◌}
use Rattle.breakpoints.proofs.Lists.{counted_address, no_check, no_hit, still_kept}
use Rattle.breakpoints.proofs.breaks.Breaks.check.Goals as goal

pub returns-then-not-has-clause-lists : goal.returns-then-not-has-clause-lists
returns-then-not-has-clause-lists c =
    c.forget_ids.ensures ∙ sym (no_check c.args.pc c.args.hart.now c.args.memory.now c.args.self.now (sym c.has.ensures ∙ c.if-not-has.true))

pub returns-then-not-has-clause-hit : goal.returns-then-not-has-clause-hit
returns-then-not-has-clause-hit c =
    sym (no_hit c.args.pc c.args.hart.now c.args.memory.now c.args.self.now (sym c.has.ensures ∙ c.if-not-has.true))

pub check_list-instruction-requires : goal.check_list-instruction-requires
check_list-instruction-requires c =
    omega (arith, c.self.invariant.fits, c.clear.ensures.len, c.clear.ensures.capacity, c.check_list-source.ensures.count, c.check_list-source.ensures.room, c.self.inside.source.ok.0, c.self.inside.instructions.ok.0)

pub check_list-function-requires : goal.check_list-function-requires
check_list-function-requires c =
    omega (arith, c.self.invariant.fits, c.clear.ensures.len, c.clear.ensures.capacity, c.check_list-source.ensures.count, c.check_list-source.ensures.room, c.check_list-instruction.ensures.count, c.check_list-instruction.ensures.room, c.self.inside.source.ok.0, c.self.inside.instructions.ok.0, c.self.inside.functions.ok.0)

pub invariant_of-self : goal.invariant_of-self
invariant_of-self c =
    let kept = still_kept c.self.inside.places (counted c.args.pc c.args.hart.now c.args.memory.now)
    (counted_address c.args.pc c.args.hart.now c.args.memory.now) c.self.inside.source.items c.self.inside.instructions.items c.self.inside.functions.items
    (vec_capacity c.self.inside.ids) (vec_capacity c.check_list-function.new.ids) (vec_capacity c.self.inside.logs)
    (vec_capacity c.push_logging.new.logs)
    (omega (arith, c.clear.ensures.capacity, c.check_list-source.ensures.room, c.check_list-instruction.ensures.room, c.check_list-function.ensures.room)) (omega (arith, c.clear-2.ensures.capacity, c.push_logging.ensures.room)) c.self.invariant in
    rw c.check_list-source.ensures.list (rw c.check_list-instruction.ensures.list (rw c.check_list-function.ensures.list kept))
