use Rattle.std.proofs.Common.{rules}
use Rattle.blocking_io.proofs.Written.{more_written}

pub loop-written-preserved : Rattle.blocking_io.proofs.writing.write_whole.Goals.loop-written-preserved
loop-written-preserved g c = record {
  within = search rules;
  appended =
      more_written _ _ _ c.args.bytes.now c.loop-written.written c.in-Ok.count c.loop-written.invariant.appended c.in-Ok.ensures.bytes;
}
