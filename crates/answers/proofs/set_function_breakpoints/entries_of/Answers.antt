use Rattle.answers.specs.SetFunctionBreakpoints as spec
use Rattle.answers.specs.SetInstructionBreakpoints.{entry, wanted}
use Rattle.answers.specs.Private.Steps.{list_in}
use Rattle.answers.proofs.Lists.{entries_on, list_on, next_small}

pub loop-breakpoint-preserved : Rattle.answers.proofs.set_function_breakpoints.entries_of.Goals.loop-breakpoint-preserved
loop-breakpoint-preserved c =
    let takes = c.in_ok-entry.ensures.takes in
    let asked = c.args.asked.now in
    let i = c.loop-breakpoint.breakpoint-index in
    let item = c.breakpoint-item.result in
    record {
      entries =
          entries_on (spec.judged c.args.lines.now c.args.size) entry asked i item c.loop-breakpoint.draft.next_id c.entry.new.draft.next_id c.loop-breakpoint.entries.items c.push.new.self.items _ c.in_ok-entry.field-0 c.loop-breakpoint-test.true c.breakpoint-item.is c.loop-breakpoint.invariant.entries c.in_ok-entry.ensures.entry takes.next c.in_ok-push.ensures.items;
      list =
          list_on (spec.judged c.args.lines.now c.args.size) wanted asked i item c.loop-breakpoint.draft.next_id c.entry.new.draft.next_id
          (list_in c.loop-breakpoint.draft)
          (list_in c.entry.new.draft) _ c.loop-breakpoint-test.true c.breakpoint-item.is c.loop-breakpoint.invariant.list takes.next takes.list;
      room =
          next_small c.args.draft.now.next_id i c.loop-breakpoint.draft.next_id c.entry.new.draft.next_id
          ((spec.judged c.args.lines.now c.args.size) item) takes.next c.loop-breakpoint.invariant.room;
    }
