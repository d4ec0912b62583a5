use Rattle.std.proofs.Common.{rules}
use Rattle.wires.proofs.Pieces.{gives}
use Rattle.wires.proofs.memory.MemoryWire.give.Goals as goal

pub returns-then-count-most-clause-gave : goal.returns-then-count-most-clause-gave
returns-then-count-most-clause-gave c =
    gives c.args.self.now c.self.inside.given.items c.deref.result.now c.self.inside.taken.items c.args.room.now _ c.self.inside.start c.min-count.result c.self.inside.faults c.self.inside.idle c.self.inside.waits c.self.inside.habits.polls c.self.view_is c.deref.ensures.value (search rules) c.copy_from_slice.ensures.after

pub returns-else-count-most-clause-gave : goal.returns-else-count-most-clause-gave
returns-else-count-most-clause-gave c =
    gives c.args.self.now c.self.inside.given.items c.deref.result.now c.self.inside.taken.items c.args.room.now _ c.self.inside.start c.min-count.result c.self.inside.faults c.self.inside.idle c.self.inside.waits c.self.inside.habits.polls c.self.view_is c.deref.ensures.value (search rules) c.copy_from_slice.ensures.after
